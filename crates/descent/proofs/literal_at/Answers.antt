use Rattle.std.proofs.Common.{sym}
use Rattle.std.proofs.lemmas.Bool.{eq-eqb, ne_eqb, cond-true, cond-false}
use Rattle.solver.specs.Values.{assignment}
use Rattle.descent.proofs.literal_at.Goals as goal

pub returns-then-values-place-eq1 : goal.returns-then-values-place-eq1
unfolding assignment
returns-then-values-place-eq1 c = sym (cond-true _ _ _ (eq-eqb _ 1 c.if-values-place-eq1.true))

pub returns-else-values-place-eq1 : goal.returns-else-values-place-eq1
unfolding assignment
returns-else-values-place-eq1 c = sym (cond-false _ _ _ (ne_eqb _ 1 c.if-values-place-eq1.false))

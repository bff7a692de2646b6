use Rattle.std.proofs.Common.{ℕ, not, List, sym, refl, ap, ◌∙◌, subst, inl, inr, arith}
use mathlib.Core.Bool.{not-not}
use Rattle.std.proofs.lemmas.Bool.{ne_eqb}
use Rattle.trail.specs.Views.{formula_of}
use Rattle.solver.specs.Values.{assignment}
use Rattle.descent.specs.Firsts.{Lowest}
use Rattle.descent.proofs.Settling.{negative}
use Rattle.descent.proofs.lower.Goals as goal

pub returns-then-values-place-ne1-clause-lowest : goal.returns-then-values-place-ne1-clause-lowest
unfolding assignment
returns-then-values-place-ne1-clause-lowest c = inl (ne_eqb _ 1 c.if-values-place-ne1.true)

pub returns-then-solve_under-clause-lowest : goal.returns-then-solve_under-clause-lowest
returns-then-solve_under-clause-lowest c =
    let t = c.solve_under.new.self.trail in
    subst (λ (xs : List ℕ). Lowest (formula_of t) (assignment xs) c.args.place) (sym c.hold.ensures)
    (inl (sym (not-not (assignment t.values c.args.place)) ∙ ap not (sym (negative (assignment t.values) c.args.place) ∙ c.if-solve_under.ensures.holds refl 0 (omega arith))))

pub returns-else-solve_under-clause-lowest : goal.returns-else-solve_under-clause-lowest
returns-else-solve_under-clause-lowest c = inr (c.if-solve_under.ensures.none refl)

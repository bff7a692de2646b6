use Rattle.std.proofs.Common.{◌∙◌, sym, eqb-true, arith}
use Rattle.solver.proofs.Checks.{true_under}
use Rattle.solver.proofs.values.is_satisfied.Goals as goal

pub returns-then-holds-clause-yes : goal.returns-then-holds-clause-yes
returns-then-holds-clause-yes c _ = record { at = c.loop-literal.literal-index; inside = omega arith; holds = true_under c.args.trail.now.values _ (eqb-true _ _ (sym c.holds.ensures ∙ c.if-holds.true)) }

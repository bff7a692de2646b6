use Rattle.std.proofs.Common.{◌≡◌}
use Rattle.solver.proofs.values.next_variable.Given as goal

abbrev pub invariant-loop-variable : goal.invariant-loop-variable
invariant-loop-variable l = l.order.variables ≡ l.initial.order.variables

abbrev pub decreases-loop-variable : goal.decreases-loop-variable
decreases-loop-variable l = l.order.count

use Rattle.std.proofs.Common.{◌≡◌}
use Rattle.conflicts.proofs.release.Given as goal

abbrev pub invariant-loop-place : goal.invariant-loop-place
invariant-loop-place l = l.order.variables ≡ l.initial.order.variables

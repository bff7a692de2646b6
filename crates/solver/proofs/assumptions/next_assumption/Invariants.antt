use Rattle.std.proofs.Common.{ℕ, ◌<◌, get_or}
use Rattle.trail.specs.Trails.{IsTrueUnder}
use Rattle.solver.proofs.assumptions.next_assumption.Given as goal

abbrev pub invariant-loop-literal : goal.invariant-loop-literal
invariant-loop-literal l = (i : ℕ) → i < l.literal-index → IsTrueUnder l.trail.values (get_or l.assumptions i 0)

use Rattle.std.proofs.Common.{ℕ, ◌<◌, get_or}
use Rattle.trail.specs.Trails.{IsTrueUnder}
use Rattle.solver.proofs.values.is_satisfied.Given as goal

abbrev pub invariant-loop-literal : goal.invariant-loop-literal
invariant-loop-literal l = (p : ℕ) → p < l.literal-index → IsTrueUnder l.trail.values (get_or l.clause p 0) → ⊥

use Rattle.std.proofs.Common.{ℕ, ◌<◌, ◌≢◌, get_or}
use Rattle.trail.specs.Trails.{IsFalseUnder}
use Rattle.propagation.proofs.search.look_at.Given as goal

abbrev pub invariant-loop-literal : goal.invariant-loop-literal
invariant-loop-literal l = (p : ℕ) → p < l.literal-index → (get_or l.clause p 0) ≢ l.other → IsFalseUnder l.trail.values (get_or l.clause p 0)

use Rattle.std.proofs.Common.{ℕ, ◌<◌, get_or}
use Rattle.learning.specs.Turning.{Against}
use Rattle.learning.proofs.forces.Given as goal

abbrev pub invariant-loop-other : goal.invariant-loop-other
invariant-loop-other l = (j : ℕ) → j < l.other-index → Against l.search.trail.literals l.before l.literal (get_or l.clause j 0)

use Rattle.trail.specs.Trails.{Rooted}
use Rattle.trail.proofs.root_of.Given as goal

abbrev pub invariant-loop-place : goal.invariant-loop-place
invariant-loop-place l = Rooted l.marks l.place

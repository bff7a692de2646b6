use Rattle.exhaustive.proofs.Counting.{Carried}
use Rattle.exhaustive.proofs.next_after.Given as goal

abbrev pub invariant-loop-place : goal.invariant-loop-place
invariant-loop-place l = Carried l.picture l.words l.place

use Rattle.std.proofs.Common.{◌/◌, ◌%◌}
use Rattle.matrices.proofs.Fill.{Filled}
use Rattle.matrices.proofs.word_of.Given as goal

abbrev pub invariant-loop-place : goal.invariant-loop-place
invariant-loop-place g l = Filled l.place l.word (λ k b. goal.F-post g l.wanted (k / l.size.things) (k % l.size.things) b)

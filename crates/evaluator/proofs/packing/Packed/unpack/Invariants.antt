use Rattle.evaluator.proofs.Pictures.{Writing}
use Rattle.evaluator.proofs.packing.Packed.unpack.Given as goal

abbrev pub invariant-loop-place : goal.invariant-loop-place
invariant-loop-place l = Writing l.self l.bit-items l.place

use Rattle.evaluator.proofs.Pictures.{Reading}
use Rattle.evaluator.proofs.packing.Packed.pack.Given as goal

abbrev pub invariant-loop-place : goal.invariant-loop-place
invariant-loop-place l = Reading l.shape.relations l.shape.size.things l.bits l.words l.place

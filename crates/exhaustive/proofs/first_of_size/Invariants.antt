use Rattle.descriptions.proofs.Order.{after}
use Rattle.evaluator.specs.Packing.{unpacked}
use Rattle.exhaustive.proofs.Passing.{Passed}
use Rattle.exhaustive.proofs.first_of_size.Given as goal

abbrev pub invariant-loop-candidate : goal.invariant-loop-candidate
invariant-loop-candidate l = Passed l.description l.fn.shape.relations l.fn.shape.size.things l.candidate

abbrev pub decreases-loop-candidate : goal.decreases-loop-candidate
decreases-loop-candidate l = after (unpacked l.candidate)

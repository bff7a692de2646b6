use Rattle.descriptions.specs.Pictures.{reach}
use Rattle.matrices.specs.Words.{matrix, Shows}
use Rattle.matrices.proofs.closure.Given as goal

abbrev pub invariant-steps : goal.invariant-steps
invariant-steps l = Shows l.size.things l.word (reach l.size.things l.step (matrix l.size.things l.one))

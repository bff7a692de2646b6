use Rattle.std.proofs.Common.{rules, tests}
use Rattle.matrices.proofs.single.Goals as goal

pub returns : goal.returns
returns c i j hi hj = let h = c.word_of.ensures i j hi hj in search (rules, tests)

use Rattle.std.proofs.Common.{◌+◌, ◌-◌, ◌*◌, true, length}
use Rattle.evaluator.specs.Evaluating.{EverySays}
use Rattle.evaluator.proofs.evaluating.Reader.+truths.Given as goal

abbrev pub decreases-for_every : goal.decreases-for_every
decreases-for_every l = 2 * (length l.self.now.bytes.now - l.at) + 1

abbrev pub decreases-sentence : goal.decreases-sentence
decreases-sentence l = 2 * (length l.self.now.bytes.now - l.at)

abbrev pub invariant-for_every-loop-thing : goal.invariant-for_every-loop-thing
invariant-for_every-loop-thing l = EverySays l.self.picture.now l.self.spoken l.self.bytes.now l.at l.thing true

use Rattle.std.proofs.Common.{◌+◌, ◌-◌, ◌*◌, length}
use Rattle.gates.specs.Circuits.{InC, GrewC}
use Rattle.encoder.specs.Encoding.{EverySays}
use Rattle.encoder.proofs.encoding.Encoder.+literals.Given as goal

abbrev pub decreases-for_every : goal.decreases-for_every
decreases-for_every l = 2 * (length l.self.now.bytes.now - l.at) + 1

abbrev pub decreases-sentence : goal.decreases-sentence
decreases-sentence l = 2 * (length l.self.now.bytes.now - l.at)

abbrev pub invariant-for_every-loop-thing : goal.invariant-for_every-loop-thing
invariant-for_every-loop-thing l = GrewC l.initial.circuit l.circuit × InC l.circuit l.all × EverySays l.self.shape l.self.spoken l.self.bytes.now l.at l.initial.circuit l.circuit l.thing l.all

use Rattle.std.proofs.Common.{arith}
use Rattle.gates.proofs.Triples.{put}
use Rattle.gates.proofs.Gates.{put_gives}
use Rattle.gates.proofs.circuit.Circuit.push.Goals as goal

pub returns-clause-came : goal.returns-clause-came
returns-clause-came c =
    put_gives c.args.self.now.base c.args.self.now.words.now c.args.self.now.count c.args.inputs.p c.args.inputs.x c.args.inputs.y _
    (put _ _ _ _ _ _ _ c.if-self-at.false (omega arith) c.copy_from_slice.ensures.after)

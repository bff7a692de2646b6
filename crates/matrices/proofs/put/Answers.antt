use Rattle.matrices.proofs.Bits.{bit_put_true}
use Rattle.matrices.proofs.put.Goals as goal

pub returns-then-wanted : goal.returns-then-wanted
returns-then-wanted c k = bit_put_true c.args.word c.args.place k c.args.wanted c.requires c.if-wanted.true

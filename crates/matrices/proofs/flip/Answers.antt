use Rattle.matrices.proofs.Bits.{bit_flip}
use Rattle.matrices.proofs.flip.Goals as goal

pub returns : goal.returns
returns c k = bit_flip c.args.word c.args.place k c.requires

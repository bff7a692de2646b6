use Rattle.matrices.proofs.Bits.{bit_test}
use Rattle.matrices.proofs.is_set.Goals as goal

pub returns : goal.returns
returns c = bit_test _ _

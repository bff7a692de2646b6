use Rattle.firsts.proofs.Links.{chain_short}
use Rattle.firsts.proofs.chain_short.Goals as goal

pub returns : goal.returns
returns c = chain_short

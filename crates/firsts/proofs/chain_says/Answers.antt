use Rattle.firsts.proofs.Chaining.{chain_says}
use Rattle.firsts.proofs.chain_says.Goals as goal

pub returns : goal.returns
returns c = chain_says

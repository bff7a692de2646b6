use Rattle.firsts.proofs.Order.{first_there}
use Rattle.firsts.proofs.first_there.Goals as goal

pub returns : goal.returns
returns c = first_there

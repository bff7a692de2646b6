use Rattle.firsts.proofs.Leading.{leaders_keep}
use Rattle.firsts.proofs.leaders_keep.Goals as goal

pub returns : goal.returns
returns c = leaders_keep

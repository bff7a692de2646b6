use Rattle.leaders.proofs.Breaking.{chains_break}
use Rattle.leaders.proofs.chains_break.Goals as goal

pub returns : goal.returns
returns c = chains_break

use Rattle.exhaustive.proofs.Passing.{blank_is}
use Rattle.exhaustive.proofs.blank.Goals as goal

pub returns : goal.returns
returns c = blank_is c.args.shape _

use Rattle.descriptions.proofs.Unique as unique
use Rattle.descriptions.proofs.one_description.Goals as goal

pub returns : goal.returns
returns c = unique.one_description

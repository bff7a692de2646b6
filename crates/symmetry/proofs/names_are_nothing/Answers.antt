use Rattle.symmetry.proofs.Moves.{names_are_nothing}
use Rattle.symmetry.proofs.names_are_nothing.Goals as goal

pub returns : goal.returns
returns c = names_are_nothing

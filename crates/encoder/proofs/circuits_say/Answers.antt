use Rattle.encoder.proofs.Wholes.{models_have_pictures, pictures_have_models}
use Rattle.encoder.proofs.Counts.{gates_are_few}
use Rattle.encoder.proofs.circuits_say.Goals as goal

pub returns : goal.returns
returns c = record { models = models_have_pictures; pictures = pictures_have_models; few = gates_are_few }

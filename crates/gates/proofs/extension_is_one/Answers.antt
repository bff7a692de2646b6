use Rattle.gates.proofs.Runs.{extends, determined}
use Rattle.gates.proofs.extension_is_one.Goals as goal

pub returns : goal.returns
returns c = record { extends = extends; determined = determined }

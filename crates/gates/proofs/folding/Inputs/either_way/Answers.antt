use Rattle.gates.proofs.Literals.{reordered_or}
use Rattle.gates.proofs.folding.Inputs.either_way.Goals as goal

pub returns-then-y-p : goal.returns-then-y-p
returns-then-y-p c = reordered_or _ _ _ c.if-x-eq-ALWAYS.true

use Rattle.gates.proofs.Gates.{stands_gives, reordered_gives}
use Rattle.gates.proofs.circuit.Circuit.gate.Goals as goal

pub returns-in-Gate-clause-came : goal.returns-in-Gate-clause-came
returns-in-Gate-clause-came c = reordered_gives _ _ _ _ _ _ _ _ c.ordered-inputs.ensures (stands_gives _ _ _ _ _ _ _ c.in-Gate.ensures)

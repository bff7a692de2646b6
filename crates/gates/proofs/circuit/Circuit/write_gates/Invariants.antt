use Rattle.std.proofs.Common.{◌*◌}
use Rattle.gates.specs.Writing.{StaysInOrder, Writes, Valued}
use Rattle.gates.proofs.circuit.Circuit.write_gates.Given as goal

abbrev pub invariant-loop-gate : goal.invariant-loop-gate
invariant-loop-gate l = record {
  writes : Writes l.initial.store (4 * l.gate) (11 * l.gate) (Valued l.self.base l.self.words.now l.gate) l.store;
  in_order : StaysInOrder l.initial.store l.store;
}

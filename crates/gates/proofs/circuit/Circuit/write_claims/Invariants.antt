use Rattle.std.proofs.Common.{◌≡◌, length}
use Rattle.gates.specs.Writing.{StaysInOrder}
use Rattle.gates.proofs.Clauses.{Claimed}
use Rattle.gates.proofs.circuit.Circuit.write_claims.Given as goal

abbrev pub invariant-loop-claim : goal.invariant-loop-claim
invariant-loop-claim l = record {
  claimed : Claimed l.initial.store l.self.claims.now l.self.claimed (length l.yielded) l.claim-iterator.rest.now l.store;
  three : l.claim-iterator.size ≡ 3;
  in_order : StaysInOrder l.initial.store l.store;
}

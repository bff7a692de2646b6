use Rattle.gates.proofs.Clauses.{circuit_written}
use Rattle.gates.proofs.circuit.Circuit.write.Goals as goal

pub returns-clause-written : goal.returns-clause-written
returns-clause-written c = circuit_written c.args.self.now _ _ _ _ c.requires.empty.0 c.requires.empty.1 c.in_ok-write_clause.ensures.writes c.in_ok-write_gates.ensures.writes _ c.write_claims.ensures.writes

use Rattle.gates.proofs.Clauses.{added_writes}
use Rattle.gates.proofs.writing.write_clause.Goals as goal

pub returns-clause-writes : goal.returns-clause-writes
returns-clause-writes c = added_writes _ _ _ c.requires _ c.add.ensures.added

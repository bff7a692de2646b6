use Rattle.std.proofs.Common.{rules, tests}
use Rattle.tables.proofs.plain.empty.Goals as goal

pub returns : goal.returns
returns c k h = let p = c.table_of.ensures k h in search (rules, tests)

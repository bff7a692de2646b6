use Rattle.std.proofs.Common.{sym}
use Rattle.clauses.proofs.Literals.{formula_long}
use Rattle.clauses.proofs.store.Store.len.Goals as goal

pub returns-clause-is : goal.returns-clause-is
returns-clause-is c = rw (← c.self.view_is) (sym (formula_long c.self.inside.spans.now c.self.inside.words.now c.self.inside.count))

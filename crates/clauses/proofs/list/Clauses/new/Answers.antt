use Rattle.clauses.proofs.Literals.{formula_long}
use Rattle.clauses.proofs.list.Clauses.new.Goals as goal

pub returns-clause-long : goal.returns-clause-long
returns-clause-long c = formula_long c.args.spans.now c.args.words.now c.args.count

use Rattle.std.proofs.Common.{◌+◌, ◌*◌, get_or, rules}
use Rattle.tables.specs.Tables.{shown}
use Rattle.tables.proofs.operators.joins.Goals as goal

pub returns-clause-came : goal.returns-clause-came
unfolding shown
returns-clause-came c =
    c.some_both.ensures.came (λ k. get_or c.args.one.now (c.args.pair.first * c.args.size.things + k) 0) (λ k. get_or c.args.other.now (k * c.args.size.things + c.args.pair.second) 0) (λ k r h p. search rules)

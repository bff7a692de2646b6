use Rattle.std.proofs.Common.{◌&&◌, ◌||◌, rules}
use Rattle.tables.specs.Tables.{shown}
use Rattle.tables.proofs.operators.through.Goals as goal

pub returns : goal.returns
returns c =
    let made = c.all_pairs.ensures.made 1 (λ α i j. shown α c.args.size.things c.args.one.now i j || (shown α c.args.size.things c.args.one.now i c.args.thing && shown α c.args.size.things c.args.one.now c.args.thing j)) (λ d e p r grew i j post. search rules) in
    record { adds = made.0; came = made.1 }

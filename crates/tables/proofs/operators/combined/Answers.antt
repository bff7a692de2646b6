use Rattle.std.proofs.Common.{rules}
use Rattle.descriptions.specs.Meaning.{combine}
use Rattle.tables.specs.Tables.{shown, binary_cost}
use Rattle.tables.proofs.operators.combined.Goals as goal

pub returns : goal.returns
returns c =
    let made = c.all_pairs.ensures.made (binary_cost c.args.operator c.args.size.things) (λ α. combine c.args.operator c.args.size.things (shown α c.args.size.things c.args.one.now) (shown α c.args.size.things c.args.other.now)) (λ d e p r grew i j post. search rules) in
    record { adds = made.0; came = made.1 }

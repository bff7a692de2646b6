use Rattle.std.proofs.Common.{◌&&◌, eqb, rules}
use Rattle.descriptions.specs.Pictures.{any}
use Rattle.tables.specs.Tables.{shown}
use Rattle.tables.proofs.Ways.{converse_shows}
use Rattle.tables.proofs.operators.transformed.Goals as goal

pub returns-in-Converse-clause-came : goal.returns-in-Converse-clause-came
returns-in-Converse-clause-came c = rw c.in-Converse.is (converse_shows c.args.size.things c.args.one.now _ c.requires.one c.converse.ensures)

pub returns-in-Domain : goal.returns-in-Domain
returns-in-Domain c =
    let made = c.all_pairs.ensures.made c.args.size.things (λ α i j. eqb i j && any c.args.size.things (λ k. shown α c.args.size.things c.args.one.now i k)) (λ d e p r grew i j post. search rules) in
    rw c.in-Domain.is (record { adds = made.0; came = made.1 })

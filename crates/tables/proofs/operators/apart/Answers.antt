use Rattle.std.proofs.Common.{◌≡◌, ◌*◌, ◌<◌, get_or, arith, rules}
use Rattle.clauses.specs.Formulas.{negation}
use Rattle.gates.proofs.Literals.{negated_low}
use Rattle.tables.proofs.Filling.{filled_place, came_is, apart_pair}
use Rattle.tables.proofs.operators.apart.Goals as goal

pub some_both-requires-clause-known : goal.some_both-requires-clause-known
some_both-requires-clause-known c k r h p =
    let inside : k < c.args.size.things * c.args.size.things = omega (arith, c.pairs.ensures.0) in
    let e : (r.0 ≡ get_or c.args.one.now k 0) × (r.1 ≡ negation (get_or c.args.other.now k 0)) = search rules in
    let one = filled_place c.args.one.now k inside c.requires.one in
    let other = negated_low _ _ _ e.1 (filled_place c.args.other.now k inside c.requires.other) in
    (omega (arith, e.0), other)

pub returns-clause-came : goal.returns-clause-came
returns-clause-came c =
    let came = c.some_both.ensures.came (λ k. get_or c.args.one.now k 0) (λ k. negation (get_or c.args.other.now k 0)) (λ k r h p. search rules) in
    came_is c.some_both.new.circuit _ _ _ (λ α o. apart_pair α c.args.size.things c.pairs.result c.args.one.now c.args.other.now c.pairs.ensures.0) came

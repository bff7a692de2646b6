use Rattle.std.proofs.Common.{◌≡◌, ◌*◌, ◌/◌, ◌%◌, ◌∙◌, arith}
use Rattle.std.proofs.lemmas.List.{length-take-le}
use Rattle.gates.specs.Circuits.{GivesC}
use Rattle.gates.proofs.Gates.{grows_on}
use Rattle.tables.proofs.Filling.{at_pair, adds_on, came_full, came_some, upto_put, upto_all, cost_step, cost_last}
use Rattle.tables.proofs.operators.all_pairs.Goals as goal

pub returns-in_err-entry-clause-made : goal.returns-in_err-entry-clause-made
returns-in_err-entry-clause-made g c cost value makes =
    let so = c.loop-place.invariant.1 cost value makes in
    let long = c.loop-place.auto.entry-items ∙ length-take-le c.pairs.result _ (omega (arith, c.pairs.ensures.1)) in
    let w = makes _ _ _ _ c.loop-place.invariant.0 c.pair_at.ensures.first_below c.pair_at.ensures.second_below c.literal.ensures in (
      adds_on (c.loop-place.place * cost) cost _ so.0 w.0 (cost_last c.loop-place.place (c.args.size.things * c.args.size.things) _ (omega (arith, c.pairs.ensures.0, long))),
      rw c.from_residual.ensures (came_full c.literal.new.arg2 _ _ c.in_err-entry.was w.1),
    )

pub loop-place-preserved : goal.loop-place-preserved
loop-place-preserved g c =
    let i = c.loop-place.invariant in (
      grows_on i.0 (c.requires.grows _ _ _ _ i.0 c.pair_at.ensures.first_below c.pair_at.ensures.second_below c.literal.ensures),
      λ cost value makes.
          (let so = i.1 cost value makes in
          let w = makes _ _ _ _ i.0 c.pair_at.ensures.first_below c.pair_at.ensures.second_below c.literal.ensures in (
            adds_on (c.loop-place.place * cost) cost _ so.0 w.0 (omega (arith, cost_step c.loop-place.place cost)),
            upto_put (λ k α. value α (k / c.args.size.things) (k % c.args.size.things)) _ _ c.in_ok-entry.field-0 w.0.grew (omega arith) so.1
                (at_pair c.args.size.things _ _ (λ i j. GivesC c.literal.new.arg2 c.in_ok-entry.field-0 (λ α. value α i j)) c.pair_at.ensures (came_some c.literal.new.arg2 _ _ _ c.in_ok-entry.was w.1)),
          )),
    )

pub returns-clause-made : goal.returns-clause-made
returns-clause-made g c cost value makes =
    let so = c.loop-place.invariant.1 cost value makes in
    let long = c.loop-place.auto.entry-items ∙ length-take-le c.pairs.result _ (omega (arith, c.pairs.ensures.1)) in
    let all : c.loop-place.place ≡ c.args.size.things * c.args.size.things = omega (arith, c.pairs.ensures.0, long) in
    (rw (← all) so.0, upto_all _ _ _ c.args.size.things _ _ _ value (omega arith) (omega arith) so.1)

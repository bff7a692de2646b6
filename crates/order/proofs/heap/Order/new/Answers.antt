use Rattle.std.proofs.Common.{◌≡◌, length, replicate, inl, inr, arith}
use Rattle.std.proofs.lemmas.Grind.{common_steps}
use Rattle.order.proofs.heap.Order.new.Goals as goal

pub invariant_of-result : goal.invariant_of-result
invariant_of-result c =
    let blank : c.fill.new.self ≡ replicate (length c.args.scores.now) 0 = c.fill.ensures.after (λ y e. e) in
    let unplaced : c.fill-2.new.self ≡ replicate (length c.args.places.now) 0 = c.fill-2.ensures.after (λ y e. e) in
    record {
      few = omega arith;
      heap_long = grind (arith, common_steps);
      places_long = grind (arith, common_steps);
      counted = omega arith;
      known = λ k l. grind (arith, common_steps, c.count_up.ensures k);
      placed = λ k. grind (arith, common_steps, c.count_up-2.ensures k);
      scored = λ k. inl (grind (arith, common_steps));
      stepped = inr (omega arith);
    }

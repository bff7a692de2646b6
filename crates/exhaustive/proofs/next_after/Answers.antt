use Rattle.std.proofs.Common.{◌≡◌, ℕ, ◌+◌, ◌-◌, subst, arith}
use Rattle.exhaustive.proofs.Counting.{Carried, carried_all, raised}
use Rattle.exhaustive.proofs.next_after.Goals as goal

pub returns-then-not-is_set : goal.returns-then-not-is_set
returns-then-not-is_set c =
    let e : c.loop-place.place ≡ (c.loop-place.place - 1) + 1 = omega arith in
    let carried = subst (λ (x : ℕ). Carried c.args.picture.now c.loop-place.words x) e c.loop-place.invariant in
    raised c.args.picture.now c.loop-place.words _ c.flip.result c.spot_at-spot.result carried (omega arith) c.spot_at-spot.ensures c.flip.ensures c.if-not-is_set.ensures _

pub returns : goal.returns
returns c = carried_all c.args.picture.now c.loop-place.words c.loop-place.place (omega arith) c.loop-place.invariant

use Rattle.std.proofs.Common.{arith}
use Rattle.matrices.proofs.Fill.{filled_none, filled_more, filled_all, at_pair}
use Rattle.matrices.proofs.word_of.Goals as goal

pub loop-place-init : goal.loop-place-init
loop-place-init g c = filled_none _

pub loop-place-preserved : goal.loop-place-preserved
loop-place-preserved g c = filled_more _ _ _ _ _ c.loop-place.invariant (at_pair c.args.size.things _ _ (λ i j. goal.F-post g c.args.wanted i j c.wanted.result) c.pair_at-pair.ensures c.wanted.ensures) c.put-word.ensures

pub returns : goal.returns
returns g c = filled_all c.args.size.things _ _ (λ i j b. goal.F-post g c.args.wanted i j b) (omega (arith, c.loop-place-test.false)) c.loop-place.invariant

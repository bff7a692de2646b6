use Rattle.std.proofs.Common.{get_or, ℕ, ◌<◌, take, length, List, arith}
use Rattle.std.proofs.lemmas.List.{length-set, take_more, take_more_set}
use Rattle.analysis.proofs.Marks.{gathered_skip, gathered_more, met_small}
use Rattle.analysis.proofs.gather.Goals as goal

pub loop-variable-preserved : goal.loop-variable-preserved
loop-variable-preserved c =
    let i = c.loop-variable.invariant in
    let index : ℕ = c.loop-variable.variable-index in
    let met : List ℕ = take c.args.count c.args.touched.now in
    let one = take_more met index 0 c.loop-variable-test.true in
    let inside : c.loop-variable.size < length c.loop-variable.buffer = omega arith in
    let stored = take_more_set c.loop-variable.buffer c.loop-variable.size c.false_literal.result inside in
    record { room = omega (arith, length-set c.loop-variable.buffer c.loop-variable.size c.false_literal.result); gathered = rw (one, stored) (gathered_more _ _ _ _ _ (get_or met index 0) i.gathered c.false_literal.result c.false_literal.ensures (met_small _ _ _ _ index c.requires.noted c.loop-variable-test.true)) }

pub loop-variable-preserved-then-seen-variable-ne1 : goal.loop-variable-preserved-then-seen-variable-ne1
loop-variable-preserved-then-seen-variable-ne1 c =
    let i = c.loop-variable.invariant in
    let one = take_more (take c.args.count c.args.touched.now) c.loop-variable.variable-index 0 c.loop-variable-test.true in
    record { room = i.room; gathered = rw one (gathered_skip _ _ _ _ _ _ i.gathered c.if-seen-variable-ne1.true) }

use Rattle.std.proofs.Common.{arith}
use Rattle.descriptions.proofs.Operators.{no_sentence, too_deep}
use Rattle.descriptions.proofs.Operands.{within_extent, nonempty_extent, not_extent, both_first, both_second, both_extent, no_body, body_extent, depth_small}
use Rattle.descriptions.proofs.extents.+sentence_extent.Goals as goal

pub returns-in_err-sentence_head : goal.returns-in_err-sentence_head
returns-in_err-sentence_head t c = rw c.from_residual.ensures (no_sentence _ _ c.args.bytes.now c.args.at _ c.in_err-sentence_head.ensures)

pub returns-in_err-one-in-Both : goal.returns-in_err-one-in-Both
returns-in_err-one-in-Both t c = rw c.from_residual-in_err-one-in-Both.ensures (both_first c.args.scope c.args.bytes.now c.args.at _ c.in_ok-sentence_head.ensures c.in-Both.is c.in_err-one-in-Both.ensures)

pub returns-in_err-other-in-Both : goal.returns-in_err-other-in-Both
returns-in_err-other-in-Both t c = rw c.from_residual-in_err-other-in-Both.ensures (both_second c.args.scope c.args.bytes.now c.args.at _ c.in_ok-sentence_head.ensures c.in_ok-one-in-Both.one c.in-Both.is c.in_ok-one-in-Both.ensures c.in_err-other-in-Both.ensures)

pub returns-then-scope-ge-DEEPEST : goal.returns-then-scope-ge-DEEPEST
returns-then-scope-ge-DEEPEST t c = too_deep _ _ c.args.bytes.now c.args.at _ _ c.in-ForEvery.is c.in_ok-sentence_head.ensures c.if-scope-ge-DEEPEST.true

pub returns-in_err-body-in-ForEvery : goal.returns-in_err-body-in-ForEvery
returns-in_err-body-in-ForEvery t c = rw c.from_residual-in_err-body-in-ForEvery.ensures (no_body c.args.scope c.args.bytes.now c.args.at _ c.in_ok-sentence_head.ensures c.in-ForEvery.is c.if-scope-ge-DEEPEST.false c.in_err-body-in-ForEvery.ensures)

pub overflow_add-result : goal.overflow_add-result
overflow_add-result t c = omega (arith, depth_small _ c.args.bytes.now _ c.in_ok-body-in-ForEvery.body c.in_ok-body-in-ForEvery.ensures)

pub returns-in-Within : goal.returns-in-Within
returns-in-Within t c = within_extent c.args.scope c.args.bytes.now c.args.at _ c.in_ok-sentence_head.ensures _ c.in-Within.is c.expressions_extent.ensures

pub returns-in-Nonempty : goal.returns-in-Nonempty
returns-in-Nonempty t c = nonempty_extent c.args.scope c.args.bytes.now c.args.at _ c.in_ok-sentence_head.ensures _ c.in-Nonempty.is c.expression_extent.ensures

pub returns-in-Not : goal.returns-in-Not
returns-in-Not t c = not_extent c.args.scope c.args.bytes.now c.args.at _ c.in_ok-sentence_head.ensures _ c.in-Not.is c.sentence_extent.ensures

pub returns-in_ok-other-in-Both : goal.returns-in_ok-other-in-Both
returns-in_ok-other-in-Both t c = both_extent c.args.scope c.args.bytes.now c.args.at _ c.in_ok-sentence_head.ensures c.in_ok-one-in-Both.one c.in_ok-other-in-Both.other _ c.max.ensures c.in-Both.is c.in_ok-one-in-Both.ensures c.in_ok-other-in-Both.ensures

pub returns-in_ok-body-in-ForEvery : goal.returns-in_ok-body-in-ForEvery
returns-in_ok-body-in-ForEvery t c = body_extent c.args.scope c.args.bytes.now c.args.at _ c.in_ok-sentence_head.ensures c.in_ok-body-in-ForEvery.body c.in-ForEvery.is c.if-scope-ge-DEEPEST.false c.in_ok-body-in-ForEvery.ensures

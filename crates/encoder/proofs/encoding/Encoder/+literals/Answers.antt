use Rattle.std.proofs.Common.{arith}
use Rattle.gates.proofs.Gates.{grows_not, grows_on}
use Rattle.encoder.proofs.Sentences.{no_truth, no_tables, within_full, within_truth, no_relation, nonempty_full, nonempty_truth, no_not, not_truth, no_first, no_second, both_full, both_truth, too_deep_truth, no_body, no_for_every, for_every_truth, every_none, every_fails, every_more}
use Rattle.encoder.proofs.encoding.Encoder.+literals.Goals as goal

pub sentence-returns-in_err-sentence_head-clause-says : goal.sentence-returns-in_err-sentence_head-clause-says
sentence-returns-in_err-sentence_head-clause-says t c = rw c.from_residual.ensures (no_truth c.args.self.now c.args.at c.args.circuit.now c.in_err-sentence_head.ensures)

pub sentence-returns-in_err-both-in-Within-clause-says : goal.sentence-returns-in_err-both-in-Within-clause-says
sentence-returns-in_err-both-in-Within-clause-says t c = rw c.from_residual-in_err-both-in-Within.ensures (no_tables c.args.self.now c.args.at _ c.in_ok-sentence_head.ensures c.args.circuit.now c.pair.new.circuit c.in-Within.is c.in_err-both-in-Within.ensures.says)

pub sentence-returns-in_err-outside-in-Within-clause-says : goal.sentence-returns-in_err-outside-in-Within-clause-says
sentence-returns-in_err-outside-in-Within-clause-says t c = rw c.from_residual-in_err-outside-in-Within.ensures (within_full c.args.self.now c.args.at _ c.in_ok-sentence_head.ensures c.args.circuit.now c.pair.new.circuit c.in-Within.is c.apart.new.circuit c.in_ok-both-in-Within.both c.apart.ensures.adds c.in_ok-both-in-Within.ensures.says c.in_err-outside-in-Within.ensures.came)

pub sentence-returns-in_ok-outside-in-Within-clause-says : goal.sentence-returns-in_ok-outside-in-Within-clause-says
sentence-returns-in_ok-outside-in-Within-clause-says t c = within_truth c.args.self.now c.args.at _ c.in_ok-sentence_head.ensures c.args.circuit.now c.pair.new.circuit c.in-Within.is c.apart.new.circuit c.in_ok-both-in-Within.both c.apart.ensures.adds c.in_ok-both-in-Within.ensures.says _ _ c.in_ok-outside-in-Within.ensures.came c.negated.ensures

pub sentence-returns-in_err-relation-in-Nonempty-clause-says : goal.sentence-returns-in_err-relation-in-Nonempty-clause-says
sentence-returns-in_err-relation-in-Nonempty-clause-says t c = rw c.from_residual-in_err-relation-in-Nonempty.ensures (no_relation c.args.self.now c.args.at _ c.in_ok-sentence_head.ensures c.args.circuit.now c.expression.new.circuit c.in-Nonempty.is c.in_err-relation-in-Nonempty.ensures.says)

pub sentence-returns-in_err-apart-in-Nonempty-clause-says : goal.sentence-returns-in_err-apart-in-Nonempty-clause-says
sentence-returns-in_err-apart-in-Nonempty-clause-says t c = rw c.from_residual-in_err-apart-in-Nonempty.ensures (nonempty_full c.args.self.now c.args.at _ c.in_ok-sentence_head.ensures c.args.circuit.now c.expression.new.circuit c.in-Nonempty.is c.apart-in-Nonempty.new.circuit c.in_ok-relation-in-Nonempty.relation c.apart-in-Nonempty.ensures.adds c.in_ok-relation-in-Nonempty.ensures.says c.in_err-apart-in-Nonempty.ensures.came)

pub sentence-returns-in_ok-apart-in-Nonempty-clause-says : goal.sentence-returns-in_ok-apart-in-Nonempty-clause-says
sentence-returns-in_ok-apart-in-Nonempty-clause-says t c = nonempty_truth c.args.self.now c.args.at _ c.in_ok-sentence_head.ensures c.args.circuit.now c.expression.new.circuit c.in-Nonempty.is c.apart-in-Nonempty.new.circuit c.in_ok-relation-in-Nonempty.relation c.apart-in-Nonempty.ensures.adds c.in_ok-relation-in-Nonempty.ensures.says _ _ c.empty.ensures c.in_ok-apart-in-Nonempty.ensures.came

pub sentence-returns-in_err-inner-in-Not-clause-says : goal.sentence-returns-in_err-inner-in-Not-clause-says
sentence-returns-in_err-inner-in-Not-clause-says t c = rw c.from_residual-in_err-inner-in-Not.ensures (no_not c.args.self.now c.args.at _ c.in_ok-sentence_head.ensures c.args.circuit.now c.sentence.new.circuit c.in-Not.is c.in_err-inner-in-Not.ensures.says)

pub sentence-returns-in_ok-inner-in-Not-clause-says : goal.sentence-returns-in_ok-inner-in-Not-clause-says
sentence-returns-in_ok-inner-in-Not-clause-says t c = not_truth c.args.self.now c.args.at _ c.in_ok-sentence_head.ensures c.args.circuit.now c.sentence.new.circuit c.in-Not.is c.in_ok-inner-in-Not.inner _ c.negated-in-Not.ensures c.in_ok-inner-in-Not.ensures.says

pub sentence-returns-in_err-one-in-Both-clause-says : goal.sentence-returns-in_err-one-in-Both-clause-says
sentence-returns-in_err-one-in-Both-clause-says t c = rw c.from_residual-in_err-one-in-Both.ensures (no_first c.args.self.now c.args.at _ c.in_ok-sentence_head.ensures c.args.circuit.now c.sentence-in-Both.new.circuit c.in-Both.is c.in_err-one-in-Both.ensures.says)

pub sentence-returns-in_err-other-in-Both-clause-says : goal.sentence-returns-in_err-other-in-Both-clause-says
sentence-returns-in_err-other-in-Both-clause-says t c = rw c.from_residual-in_err-other-in-Both.ensures (no_second c.args.self.now c.args.at _ c.in_ok-sentence_head.ensures c.args.circuit.now c.sentence-in-Both.new.circuit c.in-Both.is c.sentence-in-Both-2.new.circuit c.in_ok-one-in-Both.one c.in_ok-one-in-Both.ensures.says c.in_err-other-in-Both.ensures.says)

pub sentence-returns-in_err-gate-in-Both-clause-says : goal.sentence-returns-in_err-gate-in-Both-clause-says
sentence-returns-in_err-gate-in-Both-clause-says t c = rw c.from_residual-in_err-gate-in-Both.ensures (both_full c.args.self.now c.args.at _ c.in_ok-sentence_head.ensures c.args.circuit.now c.sentence-in-Both.new.circuit c.in-Both.is c.sentence-in-Both-2.new.circuit c.in_ok-one-in-Both.one c.in_ok-one-in-Both.ensures.says c.gate.new.self c.in_ok-other-in-Both.other c.in_ok-other-in-Both.ensures.says c.gate.ensures.adds c.in_err-gate-in-Both.ensures.came)

pub sentence-returns-in_ok-gate-in-Both-clause-says : goal.sentence-returns-in_ok-gate-in-Both-clause-says
sentence-returns-in_ok-gate-in-Both-clause-says t c = both_truth c.args.self.now c.args.at _ c.in_ok-sentence_head.ensures c.args.circuit.now c.sentence-in-Both.new.circuit c.in-Both.is c.sentence-in-Both-2.new.circuit c.in_ok-one-in-Both.one c.in_ok-one-in-Both.ensures.says c.gate.new.self c.in_ok-other-in-Both.other c.in_ok-other-in-Both.ensures.says c.gate.ensures.adds _ c.sentence-in-Both-2.ensures.grew c.in_ok-gate-in-Both.ensures.came

pub sentence-returns-then-self-clause-says : goal.sentence-returns-then-self-clause-says
sentence-returns-then-self-clause-says t c = too_deep_truth c.args.self.now c.args.at _ c.in_ok-sentence_head.ensures c.args.circuit.now c.args.circuit.now c.in-ForEvery.is c.if-self.true

pub sentence-returns-in_err-body-in-ForEvery-clause-says : goal.sentence-returns-in_err-body-in-ForEvery-clause-says
sentence-returns-in_err-body-in-ForEvery-clause-says t c = rw c.from_residual-in_err-body-in-ForEvery.ensures (no_body c.args.self.now c.args.at _ c.in_ok-sentence_head.ensures c.args.circuit.now c.args.circuit.now c.in-ForEvery.is c.if-self.false c.in_err-body-in-ForEvery.ensures)

pub sentence-returns-in_err-for_every-in-ForEvery-clause-says : goal.sentence-returns-in_err-for_every-in-ForEvery-clause-says
sentence-returns-in_err-for_every-in-ForEvery-clause-says t c = rw c.from_residual-in_err-for_every-in-ForEvery.ensures (no_for_every c.args.self.now c.args.at _ c.in_ok-sentence_head.ensures c.args.circuit.now c.for_every.new.circuit c.in-ForEvery.is c.if-self.false c.in_err-for_every-in-ForEvery.ensures.says)

pub sentence-returns-in_ok-for_every-in-ForEvery-clause-says : goal.sentence-returns-in_ok-for_every-in-ForEvery-clause-says
sentence-returns-in_ok-for_every-in-ForEvery-clause-says t c = for_every_truth c.args.self.now c.args.at _ c.in_ok-sentence_head.ensures c.args.circuit.now c.for_every.new.circuit c.in-ForEvery.is c.if-self.false c.in_ok-body-in-ForEvery.body.end _ _ c.in_ok-body-in-ForEvery.ensures c.in_ok-for_every-in-ForEvery.ensures.says

pub for_every-returns-in_err-all-clause-says : goal.for_every-returns-in_err-all-clause-says
for_every-returns-in_err-all-clause-says t c = rw c.from_residual-in_err-all.ensures (every_fails c.args.self.now.shape c.args.self.now.spoken c.extended.result c.args.self.now.bytes.now c.args.at c.loop-thing.thing c.loop-thing.all c.args.circuit.now c.loop-thing.circuit c.sentence.new.circuit c.loop-thing.invariant.2 c.loop-thing-test.true c.extended.ensures c.gate.new.self c.in_ok-truth.truth.end c.in_ok-truth.truth.value c.in_ok-truth.ensures.says c.gate.ensures.adds c.in_err-all.ensures.came)

pub for_every-loop-thing-init : goal.for_every-loop-thing-init
for_every-loop-thing-init t c = let some = c.args.circuit.now.sound.some in (grows_not, omega arith, every_none c.args.self.now.shape c.args.self.now.spoken c.args.self.now.bytes.now c.args.at _)

pub for_every-loop-thing-preserved : goal.for_every-loop-thing-preserved
for_every-loop-thing-preserved t c = (
  grows_on (grows_on c.loop-thing.invariant.0 c.sentence.ensures.grew) c.gate.ensures.adds.grew,
  c.in_ok-all.ensures.came.low,
  every_more c.args.self.now.shape c.args.self.now.spoken c.extended.result c.args.self.now.bytes.now c.args.at c.loop-thing.thing c.loop-thing.all c.args.circuit.now c.loop-thing.circuit c.sentence.new.circuit c.loop-thing.invariant.2 c.loop-thing-test.true c.extended.ensures c.gate.new.self c.in_ok-truth.truth.end c.in_ok-truth.truth.value c.in_ok-truth.ensures.says c.gate.ensures.adds _ c.sentence.ensures.grew c.in_ok-all.ensures.came,
)

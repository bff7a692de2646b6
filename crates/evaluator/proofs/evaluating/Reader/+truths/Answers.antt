use borrow.Author.Tests.{not-true, not-false}
use Rattle.evaluator.proofs.Truths.{no_truth, no_within, within_truth, no_nonempty, nonempty_truth, no_not, not_truth, no_first, no_second, both_truth, too_deep_truth, no_for_every, for_every_truth, false_of_one, true_of_more}
use Rattle.evaluator.proofs.evaluating.Reader.+truths.Goals as goal

pub sentence-returns-in_err-sentence_head : goal.sentence-returns-in_err-sentence_head
sentence-returns-in_err-sentence_head t c = rw c.from_residual.ensures (no_truth c.args.self.now c.args.at c.in_err-sentence_head.ensures)

pub sentence-returns-in_err-both-in-Within : goal.sentence-returns-in_err-both-in-Within
sentence-returns-in_err-both-in-Within t c = rw c.from_residual-in_err-both-in-Within.ensures (no_within c.args.self.now c.args.at _ c.in_ok-sentence_head.ensures c.in-Within.is c.in_err-both-in-Within.ensures)

pub sentence-returns-in_ok-both-in-Within : goal.sentence-returns-in_ok-both-in-Within
sentence-returns-in_ok-both-in-Within t c = within_truth c.args.self.now c.args.at _ c.in_ok-sentence_head.ensures c.in_ok-both-in-Within.both _ c.in-Within.is c.within.ensures c.in_ok-both-in-Within.ensures

pub sentence-returns-in_err-relation-in-Nonempty : goal.sentence-returns-in_err-relation-in-Nonempty
sentence-returns-in_err-relation-in-Nonempty t c = rw c.from_residual-in_err-relation-in-Nonempty.ensures (no_nonempty c.args.self.now c.args.at _ c.in_ok-sentence_head.ensures c.in-Nonempty.is c.in_err-relation-in-Nonempty.ensures)

pub sentence-returns-in_ok-relation-in-Nonempty : goal.sentence-returns-in_ok-relation-in-Nonempty
sentence-returns-in_ok-relation-in-Nonempty t c = nonempty_truth c.args.self.now c.args.at _ c.in_ok-sentence_head.ensures c.in_ok-relation-in-Nonempty.relation _ c.in-Nonempty.is c.nonempty.ensures c.in_ok-relation-in-Nonempty.ensures

pub sentence-returns-in_err-inner-in-Not : goal.sentence-returns-in_err-inner-in-Not
sentence-returns-in_err-inner-in-Not t c = rw c.from_residual-in_err-inner-in-Not.ensures (no_not c.args.self.now c.args.at _ c.in_ok-sentence_head.ensures c.in-Not.is c.in_err-inner-in-Not.ensures)

pub sentence-returns-in_ok-inner-in-Not : goal.sentence-returns-in_ok-inner-in-Not
sentence-returns-in_ok-inner-in-Not t c = not_truth c.args.self.now c.args.at _ c.in_ok-sentence_head.ensures c.in_ok-inner-in-Not.inner c.in-Not.is c.in_ok-inner-in-Not.ensures

pub sentence-returns-in_err-one-in-Both : goal.sentence-returns-in_err-one-in-Both
sentence-returns-in_err-one-in-Both t c = rw c.from_residual-in_err-one-in-Both.ensures (no_first c.args.self.now c.args.at _ c.in_ok-sentence_head.ensures c.in-Both.is c.in_err-one-in-Both.ensures)

pub sentence-returns-in_err-other-in-Both : goal.sentence-returns-in_err-other-in-Both
sentence-returns-in_err-other-in-Both t c = rw c.from_residual-in_err-other-in-Both.ensures (no_second c.args.self.now c.args.at _ c.in_ok-sentence_head.ensures c.in_ok-one-in-Both.one c.in-Both.is c.in_ok-one-in-Both.ensures c.in_err-other-in-Both.ensures)

pub sentence-returns-in_ok-other-in-Both : goal.sentence-returns-in_ok-other-in-Both
sentence-returns-in_ok-other-in-Both t c = both_truth c.args.self.now c.args.at _ c.in_ok-sentence_head.ensures c.in_ok-one-in-Both.one c.in_ok-other-in-Both.other c.in-Both.is c.in_ok-one-in-Both.ensures c.in_ok-other-in-Both.ensures

pub sentence-returns-then-self : goal.sentence-returns-then-self
sentence-returns-then-self t c = too_deep_truth c.args.self.now c.args.at _ c.in_ok-sentence_head.ensures c.in-ForEvery.is c.if-self.true

pub sentence-returns-in_err-body-in-ForEvery : goal.sentence-returns-in_err-body-in-ForEvery
sentence-returns-in_err-body-in-ForEvery t c = rw c.from_residual-in_err-body-in-ForEvery.ensures (no_for_every c.args.self.now c.args.at _ c.in_ok-sentence_head.ensures c.in-ForEvery.is c.if-self.false c.in_err-body-in-ForEvery.ensures)

pub sentence-returns-in_err-for_every-in-ForEvery : goal.sentence-returns-in_err-for_every-in-ForEvery
sentence-returns-in_err-for_every-in-ForEvery t c = rw c.from_residual-in_err-for_every-in-ForEvery.ensures (no_for_every c.args.self.now c.args.at _ c.in_ok-sentence_head.ensures c.in-ForEvery.is c.if-self.false c.in_err-for_every-in-ForEvery.ensures)

pub sentence-returns-in_ok-for_every-in-ForEvery : goal.sentence-returns-in_ok-for_every-in-ForEvery
sentence-returns-in_ok-for_every-in-ForEvery t c = for_every_truth c.args.self.now c.args.at _ c.in_ok-sentence_head.ensures c.in-ForEvery.is c.if-self.false c.in_ok-body-in-ForEvery.body.end _ _ c.in_ok-body-in-ForEvery.ensures c.in_ok-for_every-in-ForEvery.ensures

pub for_every-returns-then-not-truth : goal.for_every-returns-then-not-truth
for_every-returns-then-not-truth t c = false_of_one c.args.self.now c.args.at c.extended.result c.loop-thing.thing c.in_ok-truth.truth c.extended.ensures c.in_ok-truth.ensures c.loop-thing-test.true (not-true _ c.if-not-truth.true)

pub for_every-loop-thing-preserved : goal.for_every-loop-thing-preserved
for_every-loop-thing-preserved t c = true_of_more c.args.self.now c.args.at c.extended.result c.loop-thing.thing c.in_ok-truth.truth c.extended.ensures c.in_ok-truth.ensures (not-false _ c.if-not-truth.false) c.loop-thing.invariant

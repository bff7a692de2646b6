use Rattle.std.proofs.Common.{rules, tests, arith}
use Rattle.matrices.specs.Words.{Shows}
use Rattle.matrices.proofs.Steps.{next_step, last_step, stepped}
use Rattle.matrices.proofs.closure.Goals as goal

pub steps-preserved : goal.steps-preserved
steps-preserved c =
    let h : Shows c.args.size.things c.word_of-next.result (stepped c.args.size.things c.args.one c.steps.word) = λ i j hi hj. let h = c.word_of-next.ensures i j hi hj in search (rules, tests) in
    next_step c.args.size.things _ _ c.steps.word _ c.steps.invariant h

pub returns-then-next-word : goal.returns-then-next-word
returns-then-next-word c =
    let h : Shows c.args.size.things c.word_of-next.result (stepped c.args.size.things c.args.one c.steps.word) = λ i j hi hj. let h = c.word_of-next.ensures i j hi hj in search (rules, tests) in
    last_step c.args.size.things c.steps.step _ c.steps.word _ c.steps.invariant h c.if-next-word.true (omega arith)

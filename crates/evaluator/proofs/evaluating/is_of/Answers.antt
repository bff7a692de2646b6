use Rattle.std.proofs.Common.{arith}
use Rattle.evaluator.proofs.Judging.{no_description, answered}
use Rattle.evaluator.proofs.evaluating.is_of.Goals as goal

pub returns-in_err-truth : goal.returns-in_err-truth
returns-in_err-truth c =
    rw c.from_residual-in_err-truth.ensures
    (no_description c.args.picture.now c.args.description.now c.in_ok-relations.relations c.silent.result c.in_ok-relations.ensures.1 c.silent.ensures (omega arith) c.in_err-truth.ensures)

pub returns : goal.returns
returns c =
    rw c.then_some.ensures
    (answered c.args.picture.now c.args.description.now c.in_ok-relations.relations c.silent.result c.in_ok-relations.ensures.1 c.silent.ensures (omega arith) c.in_ok-truth.truth.end c.in_ok-truth.truth.value c.in_ok-truth.ensures (omega arith) (omega arith) (omega arith))

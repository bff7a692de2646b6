use Rattle.exhaustive.proofs.Passing.{passed_none, passed_more, passed_all, reached, fewer_left}
use Rattle.exhaustive.proofs.first_of_size.Goals as goal

pub loop-candidate-init : goal.loop-candidate-init
loop-candidate-init c = passed_none _ _ _ _ c.blank-candidate.ensures

pub loop-candidate-smaller : goal.loop-candidate-smaller
loop-candidate-smaller c = fewer_left _ _ c.in_ok-candidate.ensures

pub loop-candidate-preserved : goal.loop-candidate-preserved
loop-candidate-preserved c = passed_more _ _ _ c.loop-candidate.candidate c.in_ok-candidate.candidate c.loop-candidate.invariant c.if-tells.ensures c.in_ok-candidate.ensures

pub returns-in_err-candidate : goal.returns-in_err-candidate
returns-in_err-candidate c = rw c.from_residual.ensures (passed_all _ _ _ c.loop-candidate.candidate c.loop-candidate.invariant c.if-tells.ensures c.in_err-candidate.ensures)

pub returns : goal.returns
returns c = reached _ _ _ c.loop-candidate.candidate c.loop-candidate.invariant c.if-tells.ensures

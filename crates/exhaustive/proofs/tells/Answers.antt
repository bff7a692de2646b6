use Rattle.exhaustive.proofs.Passing.{judged_or_not}
use Rattle.exhaustive.proofs.tells.Goals as goal

pub returns : goal.returns
returns c = rw c.unwrap_or.ensures (judged_or_not _ _ _ c.is_of.ensures)

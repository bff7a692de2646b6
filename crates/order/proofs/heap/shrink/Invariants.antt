use Rattle.std.proofs.Common.{ℕ, slice_index}
use Rattle.order.specs.Scores.{Score}
use Rattle.order.proofs.heap.shrink.Given as goal

abbrev pub invariant-loop-score : goal.invariant-loop-score
invariant-loop-score l = (k : ℕ) → Score (slice_index l.score-items k)

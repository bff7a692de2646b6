use Rattle.std.proofs.Common.{ℕ, ◌<◌, get_or}
use Rattle.tables.proofs.plain.table_of.Given as goal

abbrev pub invariant-loop-place : goal.invariant-loop-place
invariant-loop-place g l = (k : ℕ) → k < l.place → goal.F-post g l.literal k (get_or l.entry-items k 0)

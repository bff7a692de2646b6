use Rattle.std.proofs.Common.{ℕ, ◌<◌, ◌≤◌}
use Rattle.clauses.specs.Stores.{from, to}
use Rattle.clauses.proofs.list.are_spans.Given as goal

abbrev pub invariant-loop-number : goal.invariant-loop-number
invariant-loop-number l = (k : ℕ) → k < l.number → (from l.spans k ≤ to l.spans k) × (to l.spans k ≤ l.words)

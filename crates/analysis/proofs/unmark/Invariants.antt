use Rattle.std.proofs.Common.{◌≡◌, ℕ, ◌<◌, get_or}
use Rattle.analysis.proofs.unmark.Given as goal

abbrev pub invariant-loop-variable : goal.invariant-loop-variable
invariant-loop-variable l = record {
  gone : (i : ℕ) → i < l.variable-index → get_or l.seen (get_or l.variables i 0) 0 ≡ 0;
  none : (x : ℕ) → get_or l.initial.seen x 0 ≡ 0 → get_or l.seen x 0 ≡ 0;
}

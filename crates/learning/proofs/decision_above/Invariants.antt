use Rattle.std.proofs.Common.{◌≢◌, ℕ, ◌/◌, ◌<◌, ◌≤◌, get_or}
use Rattle.learning.specs.Turning.{Above}
use Rattle.learning.proofs.decision_above.Given as goal

abbrev pub invariant-loop-other : goal.invariant-loop-other
invariant-loop-other l = record {
  above : (j : ℕ) → j < l.other-index → get_or l.clause j 0 ≢ l.literal → get_or l.search.causes.places (get_or l.clause j 0 / 2) 0 < l.at;
  least : (q : ℕ) → Above l.search.causes.places l.clause l.literal q → l.at ≤ q;
}

abbrev pub invariant-loop-place : goal.invariant-loop-place
invariant-loop-place l = record {
  above : Above l.search.causes.places l.clause l.literal l.place;
  lowest : (q : ℕ) → q < l.place → Above l.search.causes.places l.clause l.literal q → get_or l.search.trail.marks q 0 ≢ 1;
}

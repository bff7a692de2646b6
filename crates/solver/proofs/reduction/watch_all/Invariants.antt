use Rattle.std.proofs.Common.{◌≡◌}
use Rattle.solver.proofs.reduction.watch_all.Given as goal

abbrev pub invariant-loop-number : goal.invariant-loop-number
invariant-loop-number l = record {
  trail : l.search.trail ≡ l.initial.search.trail;
  causes : l.search.causes ≡ l.initial.search.causes;
  learned : l.search.learned ≡ l.initial.search.learned;
}

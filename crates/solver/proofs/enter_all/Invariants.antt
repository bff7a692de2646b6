use Rattle.std.proofs.Common.{◌≡◌}
use Rattle.trail.specs.Trails.{SameClauses}
use Rattle.solver.proofs.enter_all.Given as goal

abbrev pub invariant-loop-number : goal.invariant-loop-number
invariant-loop-number l = record {
  clauses : SameClauses l.initial.search.trail l.search.trail;
  learned : l.search.learned ≡ l.initial.search.learned;
}

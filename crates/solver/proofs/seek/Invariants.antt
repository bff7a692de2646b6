use Rattle.std.proofs.Common.{◌≡◌, ◌+◌, ◌≤◌, length}
use Rattle.trail.specs.Views.{formula_of}
use Rattle.trail.specs.Trails.{SameClauses, AssumedT, rank}
use Rattle.solver.specs.Assumptions.{Wished}
use Rattle.solver.proofs.seek.Given as goal

abbrev pub invariant-loop-conflict : goal.invariant-loop-conflict
invariant-loop-conflict l = record {
  clauses : SameClauses l.fn.learner.search.trail l.learner.search.trail;
  assumed : AssumedT l.assumptions l.force l.learner.search.trail;
  firm : l.firm ≤ l.force;
  force : l.force ≤ length l.assumptions;
  wished : Wished (formula_of l.learner.search.trail) l.assumptions l.force;
  decided : l.learner.decided ≡ l.fn.learner.decided;
  phases : length l.learner.phases.now ≡ length l.fn.learner.phases.now;
}

abbrev pub decreases-loop-conflict : goal.decreases-loop-conflict
decreases-loop-conflict l = rank (l.restarts + l.force) l.learner.search.trail

use Rattle.std.proofs.Common.{◌≡◌, ◌+◌, ◌-◌, ◌≤◌, length}
use Rattle.trail.specs.Views.{formula_of, variables_of}
use Rattle.clauses.specs.Stores.{Grown}
use Rattle.solver.specs.Values.{assignment}
use Rattle.descent.specs.Firsts.{Settled, Room}
use Rattle.descent.proofs.descend.Given as goal

abbrev pub invariant-loop-place : goal.invariant-loop-place
invariant-loop-place l = record {
  problem : l.solver.trail.problem ≡ l.fn.solver.trail.problem;
  grown : Grown l.fn.solver.trail.units l.solver.trail.units;
  size : length l.values ≡ variables_of l.fn.solver.trail;
  room : Room l.solver.trail.units (l.high - l.place);
  settled : Settled (formula_of l.fn.solver.trail) (formula_of l.solver.trail) (assignment l.values) l.low l.place;
  decided : l.solver.decided ≡ l.fn.solver.decided;
  phases : length l.solver.phases.now ≡ length l.fn.solver.phases.now;
  questions : l.questions + (l.low + 1) ≤ l.place;
}

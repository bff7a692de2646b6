use Rattle.std.proofs.Common.{◌≤◌, length, take}
use Rattle.trail.specs.Views.{variables_of}
use Rattle.analysis.specs.Marking.{Gathered}
use Rattle.analysis.proofs.gather.Given as goal

abbrev pub invariant-loop-variable : goal.invariant-loop-variable
invariant-loop-variable l = record {
  room : l.size ≤ length l.buffer;
  gathered : Gathered (variables_of l.trail) l.trail.values l.seen (take l.variable-index (take l.count l.touched)) (take l.size l.buffer);
}

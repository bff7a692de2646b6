use Rattle.std.proofs.Common.{◌≡◌, ◌≤◌, length, take}
use Rattle.propagation.specs.Views.{variables_of, formula_of}
use Rattle.analysis.proofs.Refusals.{Refusing, LastIf}
use Rattle.analysis.proofs.Analysis.refuse.Given as goal

abbrev pub invariant-loop-place : goal.invariant-loop-place
invariant-loop-place l = record {
  seen : l.self-inside.seen.now ≡ l.fn.self.seen;
  touched : l.self-inside.touched.now ≡ l.fn.self.touched;
  count : l.self-inside.count ≡ l.fn.self.count;
  buffer : length l.self-inside.buffer.now ≡ length l.fn.self.buffer;
  room : l.self-inside.size ≤ length l.self-inside.buffer.now;
  refusing : Refusing (formula_of l.search) (variables_of l.search) l.trail.literals l.trail.marks (take l.self-inside.size l.self-inside.buffer.now) l.place;
  last : LastIf l.trail.marks l.place l.last;
}

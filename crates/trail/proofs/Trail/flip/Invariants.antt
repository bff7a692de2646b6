use Rattle.std.proofs.Common.{◌≡◌, ◌≤◌}
use Rattle.trail.specs.Trails.{Jammed, SameClauses}
use Rattle.trail.proofs.Trail.flip.Given as goal

abbrev pub invariant-loop-self : goal.invariant-loop-self
invariant-loop-self l = record {
  clauses : SameClauses l.initial.self l.self;
  jammed : Jammed l.self;
  literals : l.self.literals ≡ l.initial.self.literals;
  marks : l.self.marks ≡ l.initial.self.marks;
  low : l.self.len ≤ l.initial.self.len;
}

abbrev pub decreases-loop-self : goal.decreases-loop-self
decreases-loop-self l = l.self.len

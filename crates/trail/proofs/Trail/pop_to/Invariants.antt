use Rattle.std.proofs.Common.{◌≡◌, ℕ, ◌-◌, ◌/◌, ◌<◌, ◌≤◌, get_or}
use Rattle.trail.specs.Trails.{SameClauses}
use Rattle.trail.proofs.Trail.pop_to.Given as goal

abbrev pub invariant-loop-self : goal.invariant-loop-self
invariant-loop-self l = record {
  clauses : SameClauses l.initial.self l.self;
  literals : l.self.literals ≡ l.initial.self.literals;
  marks : l.self.marks ≡ l.initial.self.marks;
  low : l.keep ≤ l.self.len;
  freed : (q : ℕ) → l.self.len ≤ q → q < l.initial.self.len → get_or l.self.values (get_or l.initial.self.literals q 0 / 2) 0 ≡ 0;
}

abbrev pub decreases-loop-self : goal.decreases-loop-self
decreases-loop-self l = l.self.len - l.keep

use Rattle.std.proofs.Common.{◌≡◌, ℕ, ◌+◌, ◌<◌, ◌≤◌, min, get_or}
use Rattle.sat.proofs.count_from.Given as goal

-- those before the index are moved, and the others as they were
abbrev pub invariant-loop-span : goal.invariant-loop-span
invariant-loop-span l = ((k : ℕ) → k < l.span-index → get_or l.spans k 0 ≡ min (get_or l.initial.spans k 0 + l.earlier) 4294967295) × ((k : ℕ) → l.span-index ≤ k → get_or l.spans k 0 ≡ get_or l.initial.spans k 0)

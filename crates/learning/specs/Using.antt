-- When learned clauses took part.
use Rattle.std.specs.Prelude.{ℕ, ◌-◌, List, cond, nat_lt, slice_set}

-- the clock is noted at a clause's word, if it is no clause of the problem
abbrev pub noted_at : List ℕ → ℕ → ℕ → ℕ → List ℕ
noted_at last number base clock = cond (nat_lt number base) last (slice_set last (number - base) clock)

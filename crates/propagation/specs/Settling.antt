-- What is noted of the literal that stands last on a trail.
use Rattle.std.specs.Prelude.{ℕ, ◌-◌, ◌/◌, ◌<◌, nat_lt, if◌then◌else◌, slice_index}
use Rattle.propagation.specs.Views.{SearchView}
use Rattle.propagation.specs.Looking.{NotedCause}

-- the level of the literal below the last one, 0 where there is none
abbrev pub level_below : SearchView → ℕ
level_below s = if nat_lt s.trail.len 2 then 0 else slice_index s.causes.levels (slice_index s.trail.literals (s.trail.len - 2) / 2)

-- of the last literal's variable it is noted why, at which level and where it stands
abbrev pub SettledSays : SearchView → SearchView → ℕ → ℕ → Type 0
SettledSays s t reason level = 0 < s.trail.len → NotedCause s.causes t.causes (slice_index s.trail.literals (s.trail.len - 1) / 2) reason level (s.trail.len - 1)

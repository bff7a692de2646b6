-- Activities in words: the exponent in the high byte, the mantissa below it.
use Rattle.std.specs.Prelude.{◌≡◌, ℕ, ◌%◌, ◌^◌, ◌≤◌, ◌⊎◌}

-- zero, or the mantissa's top bit is set
abbrev pub Score : ℕ → Type 0
Score w = (w ≡ 0) ⊎ (2 ^ 23 ≤ w % 2 ^ 24)

-- an activity that is not lower
pub record Raised (w w' : ℕ) : Type 0 where
  pub up : w ≤ w'
  pub score : Score w'

-- an activity that is not higher
pub record Lowered (w w' : ℕ) : Type 0 where
  pub down : w' ≤ w
  pub score : Score w'

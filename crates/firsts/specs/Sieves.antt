-- Leaving pictures out without losing the first.
use Rattle.std.specs.Prelude.{◌≡◌, ℕ, Bool, true, length}
use Rattle.descriptions.specs.Pictures.{Picture}
use Rattle.firsts.specs.Orders.{NoneHas, FirstHas, NoneOf, FirstWith}

-- what is left has the property, and the first that has it is left
pub record Sieved (n : ℕ) (has : Picture → Bool) (Left : Picture → Type 0) : Type 0 where
  pub within : (p : Picture) → length p ≡ n → Left p → has p ≡ true
  pub keeps : (p : Picture) → FirstHas n has p → Left p

-- so if none is left, none has the property, and the first that is left is the first that has it
pub record Keeps (n : ℕ) (has : Picture → Bool) (Left : Picture → Type 0) : Type 0 where
  pub none : NoneOf n Left → NoneHas n has
  pub first : (p : Picture) → FirstWith n Left p → FirstHas n has p

abbrev pub SieveKeeps : Type 0
SieveKeeps = (n : ℕ) (has left : Picture → Bool) → Sieved n has (λ p. left p ≡ true) → Keeps n has (λ p. left p ≡ true)

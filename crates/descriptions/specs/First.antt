-- The first picture of a description: by the number of things, then by the order of pictures.
use Rattle.std.specs.Prelude.{◌≡◌, ℕ, ◌<◌, true, false}
use Rattle.descriptions.specs.Pictures.{Picture, Before}
use Rattle.descriptions.specs.Meaning.{Description, of}
use Rattle.descriptions.specs.Theorems.{Sized}

-- no picture of m things is of the description
abbrev pub NoPicture : Description → ℕ → Type 0
NoPicture d m = (p : Picture) → Sized d m p → of d m p ≡ false

-- p is the first picture of m things
pub record FirstOfSize (d : Description) (m : ℕ) (p : Picture) : Type 0 where
  pub sized : Sized d m p
  pub is_of : of d m p ≡ true
  pub none_before : (q : Picture) → Sized d m q → Before q p → of d m q ≡ false

-- and there is none of fewer things
pub record TheFirst (d : Description) (m : ℕ) (p : Picture) : Type 0 where
  pub first : FirstOfSize d m p
  pub none_smaller : (k : ℕ) → k < m → NoPicture d k

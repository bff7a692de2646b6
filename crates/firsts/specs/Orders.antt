-- The order of pictures, decided, and the first picture of n bits that has a property.
use Rattle.std.specs.Prelude.{◌≡◌, ℕ, Bool, true, false, ◌⊎◌, [], ◌∷◌, length}
use Rattle.descriptions.specs.Pictures.{Picture, Before}

-- whether p stands before q
abbrev pub before : Picture → Picture → Bool
before [] q = false
before (b ∷ p) [] = false
before (false ∷ p) (false ∷ q) = before p q
before (false ∷ p) (true ∷ q) = true
before (true ∷ p) (false ∷ q) = false
before (true ∷ p) (true ∷ q) = before p q

abbrev pub OrderDecided : Type 0
OrderDecided = (p q : Picture) → (Before p q → before p q ≡ true) × (before p q ≡ true → Before p q)

-- no picture of n bits has the property
abbrev pub NoneHas : ℕ → (Picture → Bool) → Type 0
NoneHas n has = (p : Picture) → length p ≡ n → has p ≡ false

-- p is the first of n bits that has it
pub record FirstHas (n : ℕ) (has : Picture → Bool) (p : Picture) : Type 0 where
  pub long : length p ≡ n
  pub it_has : has p ≡ true
  pub none_before : (q : Picture) → length q ≡ n → Before q p → has q ≡ false

-- the same of a property that need not be decided
abbrev pub NoneOf : ℕ → (Picture → Type 0) → Type 0
NoneOf n Has = (p : Picture) → length p ≡ n → Has p → ⊥

pub record FirstWith (n : ℕ) (Has : Picture → Type 0) (p : Picture) : Type 0 where
  pub long : length p ≡ n
  pub it_has : Has p
  pub none_before : (q : Picture) → length q ≡ n → Before q p → Has q → ⊥

-- the least element: if some picture of n bits has a property, one of them is the first
abbrev pub FirstThere : Type 0
FirstThere = (n : ℕ) (has : Picture → Bool) → NoneHas n has ⊎ ((p : Picture) × FirstHas n has p)

-- The way to the first picture, bit by bit: each bit is settled as 0 if a picture has 0 there, else as 1.
use Rattle.std.specs.Prelude.{◌≡◌, ℕ, ◌≤◌, max, Bool, false, length, take}
use Rattle.descriptions.specs.Pictures.{Picture, Before}
use Rattle.firsts.specs.Leaders.{bit_of}

-- pictures of n bits have one property if and only if they have the other
abbrev pub Same : ℕ → (Picture → Type 0) → (Picture → Type 0) → Type 0
Same n P Q = (q : Picture) → length q ≡ n → (P q → Q q) × (Q q → P q)

-- none has 0 at a place
abbrev pub NoneLow : (Picture → Type 0) → ℕ → ℕ → Type 0
NoneLow Now n at = (q : Picture) → length q ≡ n → bit_of q at ≡ false → Now q → ⊥

-- of those that have Now, the ones with bit b at a place have Next, and only these
abbrev pub Fixed : (Picture → Type 0) → ℕ → ℕ → Bool → (Picture → Type 0) → Type 0
Fixed Now n at b Next = Same n Next (λ q. Now q × (bit_of q at ≡ b))

-- p has the property, and its bits before a place are those of the first; Now is what still comes into question: to have the property and these bits
pub record Settles (Has Now : Picture → Type 0) (n at : ℕ) (p : Picture) : Type 0 where
  pub long : length p ≡ n
  pub it_has : Has p
  pub none_lower : (q : Picture) → length q ≡ n → Before (take at q) (take at p) → Has q → ⊥
  pub narrowed : Same n Now (λ q. Has q × (take at q ≡ take at p))

-- how often was asked when so many bits are settled: once for the start, and at most once for each place after the first
abbrev pub Asked : ℕ → ℕ → Type 0
Asked at times = times ≤ max 1 at

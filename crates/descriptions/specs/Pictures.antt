-- Pictures: finite structures whose elements are called things, with binary relations between them.
use Rattle.std.specs.Prelude.{ℕ, zero, suc, ◌+◌, ◌*◌, Bool, true, false, ◌&&◌, ◌||◌, List, ◌∷◌, nat_lt, slice_index_or}

-- a binary relation, as the pairs that stand in it
abbrev pub Relation : Type 0
Relation = ℕ → ℕ → Bool

-- some thing below m has a property
abbrev pub any : ℕ → (ℕ → Bool) → Bool
any zero f = false
any (suc m) f = f m || any m f

-- every thing below m has it
abbrev pub every : ℕ → (ℕ → Bool) → Bool
every zero f = true
every (suc m) f = f m && every m f

-- one relation after the other: from i to j by way of some thing
abbrev pub compose : ℕ → Relation → Relation → Relation
compose m r s i j = any m (λ k. r i k && s k j)

-- from i to j in one step of r, or in up to k steps more
abbrev pub reach : ℕ → ℕ → Relation → Relation
reach m zero r i j = r i j
reach m (suc k) r i j = r i j || compose m r (reach m k r) i j

-- a picture of m things: for each relation, each first thing and each second thing, a bit
abbrev pub Picture : Type 0
Picture = List Bool

-- relation r of a picture of m things
abbrev pub relation_of : ℕ → Picture → ℕ → Relation
relation_of m p r i j = nat_lt i m && (nat_lt j m && slice_index_or p ((r * m + i) * m + j) false)

-- the order of pictures of one size: by the first bit that differs, 0 first
pub data Before : Picture → Picture → Type 0 where
  at_once : {p q : Picture} → Before (false ∷ p) (true ∷ q)
  later : {b : Bool} {p q : Picture} → Before p q → Before (b ∷ p) (b ∷ q)

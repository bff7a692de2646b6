-- Pictures with things changed about, and which of them lead.
use Rattle.std.specs.Prelude.{◌≡◌, ℕ, ◌+◌, ◌*◌, ◌/◌, ◌%◌, ◌<◌, Bool, true, false, cond, not, ◌||◌, List, map, ◌==◌, slice_index_or}
use Rattle.std.specs.List.{range_with_len}
use Rattle.descriptions.specs.Pictures.{Relation, every, Picture, Before}
use Rattle.descriptions.specs.Meaning.{Description, of}
use Rattle.descriptions.specs.Bytes.{Reads}
use Rattle.descriptions.specs.Theorems.{Sized, Permutes, Moved}
use Rattle.descriptions.specs.First.{FirstOfSize}
use Rattle.firsts.specs.Orders.{before}

-- a picture's bit at a place
abbrev pub bit_of : Picture → ℕ → Bool
bit_of p k = slice_index_or p k false

-- the place of the pair (i, j) in relation r of m things
abbrev pub place : ℕ → ℕ → ℕ → ℕ → ℕ
place m r i j = (r * m + i) * m + j

-- the place that has the same relation and, for each thing i of the pair, g i
unfoldable pub source : ℕ → (ℕ → ℕ) → ℕ → ℕ
source m g k = place m (k / m / m) (g (k / m % m)) (g (k % m))

-- the picture whose thing i is what was thing g i
abbrev pub moved : ℕ → ℕ → (ℕ → ℕ) → Picture → Picture
moved n m g p = map (λ k. bit_of p (source m g k)) (range_with_len 0 (n * (m * m)))

-- a transposition: a and b change places
unfoldable pub swap : ℕ → ℕ → ℕ → ℕ
swap a b i = cond (i == a) b (cond (i == b) a i)

-- p is not after itself with a and b changed about
abbrev pub led : ℕ → ℕ → ℕ → ℕ → Picture → Bool
led n m a b p = not (before (moved n m (swap a b) p) p)

-- the same for each chosen pair of things
abbrev pub leads : ℕ → ℕ → Relation → Picture → Bool
leads n m chosen p = every m (λ a. every m (λ b. not (chosen a b) || led n m a b p))

-- a lex-leader: the same for each pair
abbrev pub Leader : ℕ → ℕ → Picture → Type 0
Leader n m p = (a b : ℕ) → a < b → b < m → led n m a b p ≡ true

-- a picture before p that is p with things changed about, and of the description if p is
pub record Earlier (d : Description) (m : ℕ) (p : Picture) : Type 0 where
  pub permutation : ℕ → ℕ
  pub picture : Picture
  pub permutes : Permutes m permutation
  pub sized : Sized d m picture
  pub moves : Moved d.relations m permutation p picture
  pub earlier : Before picture p
  pub same : of d m picture ≡ of d m p

-- where the chosen transpositions leave a picture out there is such an earlier one, and the first is left
pub record Leaders (d : Description) (m : ℕ) (chosen : Relation) : Type 0 where
  pub replaced : (p : Picture) → Sized d m p → leads d.relations m chosen p ≡ false → Earlier d m p
  pub keeps : (p : Picture) → FirstOfSize d m p → leads d.relations m chosen p ≡ true

abbrev pub LeadersKeep : Type 0
LeadersKeep = (s : List ℕ) (d : Description) (m : ℕ) (chosen : Relation) → Reads s d → Leaders d m chosen

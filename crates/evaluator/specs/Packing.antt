-- Pictures of at most eight things and eight relations, a word for each relation.
use Rattle.std.specs.Prelude.{◌≡◌, ℕ, ◌*◌, ◌/◌, ◌%◌, ◌<◌, ◌≤◌, Bool, cond, List, [], ◌∷◌, map, length, take, drop, Some, None, Option, ◌≢◌, slice_index}
use Rattle.std.specs.List.{range_with_len}
use Rattle.descriptions.specs.Pictures.{Picture}
use Rattle.matrices.specs.Words.{bit}
use Rattle.evaluator.specs.declared.packing.Packed.{Packed}

-- bit k of the picture of m things
abbrev pub bit_at : List ℕ → ℕ → ℕ → Bool
bit_at ws m k = bit (slice_index ws (k / (m * m))) (k % (m * m))

-- how many bits there are, and the picture that they are
abbrev pub size : Packed → ℕ
size p = p.shape.relations * (p.shape.size.things * p.shape.size.things)

abbrev pub unpacked : Packed → Picture
unpacked p = map (bit_at p.words p.shape.size.things) (range_with_len 0 (size p))

-- a picture written one bit a byte
abbrev pub bits : Picture → List ℕ
bits [] = []
bits (b ∷ p) = cond b 1 0 ∷ bits p

-- the picture stands first in the bytes, and the rest is as it was
pub record Unpacks (p : Packed) (o o' : List ℕ) : Type 0 where
  pub first : take (size p) o' ≡ bits (unpacked p)
  pub rest : drop (size p) o' ≡ drop (size p) o

-- bytes read as a picture of m things with n relations: which one, or that they are none
pub record Packs (n m : ℕ) (s : List ℕ) (p : Packed) : Type 0 where
  pub relations : p.shape.relations ≡ n
  pub things : p.shape.size.things ≡ m
  pub bytes : s ≡ bits (unpacked p)

abbrev pub PackSays : ℕ → ℕ → List ℕ → Option Packed → Type 0
PackSays n m s None = n ≤ 8 → m ≤ 8 → (q : Picture) → length q ≡ n * (m * m) → s ≢ bits q
PackSays n m s (Some p) = Packs n m s p

-- the word of relation r, if there is one
abbrev pub RelationAt : Packed → ℕ → Option ℕ → Type 0
RelationAt p r None = p.shape.relations ≤ r
RelationAt p r (Some w) = (r < p.shape.relations) × (w ≡ slice_index p.words r)

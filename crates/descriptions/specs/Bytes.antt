-- Descriptions as bytes: the number of relations, then the sentence in prefix order.
use Rattle.std.specs.Prelude.{◌≡◌, ℕ, ◌+◌, ◌≤◌, max, Bool, true, ◌&&◌, List, [], ◌∷◌, ◌++◌, length, nat_lt}
use Rattle.descriptions.specs.declared.Unary.{Unary}
use Rattle.descriptions.specs.declared.Unary.TheVariants.{Converse, Closure, Domain}
use Rattle.descriptions.specs.declared.Binary.{Binary}
use Rattle.descriptions.specs.declared.Binary.TheVariants.{Union, Intersection, Difference, Composition}
use Rattle.descriptions.specs.Meaning.{Expression, named, thing, identity, empty, unary, binary, Sentence, within, nonempty, negation, both, for_every, Description}

abbrev pub unary_byte : Unary → ℕ
unary_byte Converse = 8
unary_byte Closure = 9
unary_byte Domain = 10

abbrev pub binary_byte : Binary → ℕ
binary_byte Union = 4
binary_byte Intersection = 5
binary_byte Difference = 6
binary_byte Composition = 7

-- how expressions and sentences are written
abbrev pub write_e : Expression → List ℕ
write_e (named r) = 0 ∷ r ∷ []
write_e (thing x) = 1 ∷ x ∷ []
write_e identity = 2 ∷ []
write_e empty = 3 ∷ []
write_e (unary o a) = unary_byte o ∷ write_e a
write_e (binary o a b) = binary_byte o ∷ (write_e a ++ write_e b)

abbrev pub write_s : Sentence → List ℕ
write_s (within a b) = 20 ∷ (write_e a ++ write_e b)
write_s (nonempty a) = 21 ∷ write_e a
write_s (negation c) = 22 ∷ write_s c
write_s (both c d) = 23 ∷ (write_s c ++ write_s d)
write_s (for_every c) = 24 ∷ write_s c

-- well formed, with n relations and k things spoken of: every number names one of them
abbrev pub fine_e : ℕ → ℕ → Expression → Bool
fine_e n k (named r) = nat_lt r n
fine_e n k (thing x) = nat_lt x k
fine_e n k identity = true
fine_e n k empty = true
fine_e n k (unary o a) = fine_e n k a
fine_e n k (binary o a b) = fine_e n k a && fine_e n k b

-- and 'for every' stands at most four deep
abbrev pub fine_s : ℕ → ℕ → Sentence → Bool
fine_s n k (within a b) = fine_e n k a && fine_e n k b
fine_s n k (nonempty a) = fine_e n k a
fine_s n k (negation c) = fine_s n k c
fine_s n k (both c d) = fine_s n k c && fine_s n k d
fine_s n k (for_every c) = nat_lt k 4 && fine_s n (k + 1) c

-- how deep 'for every' stands
abbrev pub depth : Sentence → ℕ
depth (within a b) = 0
depth (nonempty a) = 0
depth (negation c) = depth c
depth (both c d) = max (depth c) (depth d)
depth (for_every c) = depth c + 1

-- the bytes s are the writing of the description d, within the limits
pub record Reads (s : List ℕ) (d : Description) : Type 0 where
  pub written : s ≡ d.relations ∷ write_s d.sentence
  pub some : 1 ≤ d.relations
  pub few : d.relations ≤ 8
  pub short : length s ≤ 512
  pub fine : fine_s d.relations 0 d.sentence ≡ true

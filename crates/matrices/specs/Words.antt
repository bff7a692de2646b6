-- A relation between m things in the bits of a word: the pair of i and j is bit i * m + j.
use Rattle.std.specs.Prelude.{◌≡◌, ℕ, ◌+◌, ◌*◌, ◌/◌, ◌%◌, ◌^◌, ◌<◌, Bool, ◌==◌}
use Rattle.descriptions.specs.Pictures.{Relation}

-- bit k of a word
unfoldable pub bit : ℕ → ℕ → Bool
bit w k = w / 2 ^ k % 2 == 1

abbrev pub matrix : ℕ → ℕ → Relation
matrix m w i j = bit w (i * m + j)

-- the word says of the things below m what the relation says
abbrev pub Shows : ℕ → ℕ → Relation → Type 0
Shows m w r = (i j : ℕ) → i < m → j < m → matrix m w i j ≡ r i j

-- Propositional formulas in clauses, and what satisfies them.
use Rattle.std.specs.Prelude.{◌≡◌, ℕ, ◌+◌, ◌-◌, ◌*◌, ◌/◌, ◌%◌, ◌<◌, Bool, true, cond, not, List, [], length, ◌==◌, slice_index, slice_index_or}

-- a truth value for each variable
abbrev pub Assignment : Type 0
Assignment = ℕ → Bool

-- the literal 2 * x is the variable x, and 2 * x + 1 its negation
unfoldable pub value : Assignment → ℕ → Bool
value α l = cond (l % 2 == 0) (α (l / 2)) (not (α (l / 2)))

unfoldable pub negation : ℕ → ℕ
negation l = (l + 1) - 2 * (l % 2)

-- one of a clause's literals is true
pub record Satisfies (α : Assignment) (clause : List ℕ) : Type 0 where
  pub at : ℕ
  pub inside : at < length clause
  pub holds : value α (slice_index clause at) ≡ true

-- every clause of a formula is satisfied
abbrev pub Models : List (List ℕ) → Assignment → Type 0
Models f α = (k : ℕ) → k < length f → Satisfies α (slice_index_or f k [])

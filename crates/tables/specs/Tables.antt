-- Relations between at most eight things as tables of literals, a row after the other.
use Rattle.std.specs.Prelude.{◌≡◌, ℕ, ◌+◌, ◌*◌, ◌<◌, List, slice_index}
use Rattle.descriptions.specs.declared.Unary.{Unary}
use Rattle.descriptions.specs.declared.Unary.TheVariants as unary
use Rattle.descriptions.specs.declared.Binary.{Binary}
use Rattle.descriptions.specs.declared.Binary.TheVariants as binary
use Rattle.descriptions.specs.Pictures.{Relation}
use Rattle.clauses.specs.Formulas.{Assignment, value}
use Rattle.gates.specs.declared.circuit.Circuit.{Circuit}
use Rattle.gates.specs.Words.{Goes}

-- the relation that an assignment makes of a table
unfoldable pub shown : Assignment → ℕ → List ℕ → Relation
shown α m t i j = value α (slice_index t (i * m + j))

-- each pair's literal is of an input or a gate
pub record Filled (base n m : ℕ) (t : List ℕ) : Type 0 where
  pub low : (i j : ℕ) → i < m → j < m → slice_index t (i * m + j) < 2 * (base + n)

-- and the table shows the relation r in every assignment that goes with the gates
pub record Shows (base : ℕ) (g : List ℕ) (n m : ℕ) (t : List ℕ) (r : Assignment → Relation) : Type 0 where
  pub filled : Filled base n m t
  pub is : (α : Assignment) → Goes base g n α → (i j : ℕ) → i < m → j < m → shown α m t i j ≡ r α i j

abbrev pub FilledC : Circuit → ℕ → List ℕ → Type 0
FilledC c m t = Filled c.base c.count m t

abbrev pub ShowsC : Circuit → ℕ → List ℕ → (Assignment → Relation) → Type 0
ShowsC c m t r = Shows c.base c.words.now c.count m t r

-- the literals of m things' pairs, place by place
abbrev pub Are : ℕ → List ℕ → (ℕ → ℕ) → Type 0
Are m t f = (k : ℕ) → k < m * m → slice_index t k ≡ f k

-- how many gates a pair takes
abbrev pub binary_cost : Binary → ℕ → ℕ
binary_cost binary.Union m = 1
binary_cost binary.Intersection m = 1
binary_cost binary.Difference m = 1
binary_cost binary.Composition m = m

-- and the whole of a table
abbrev pub combine_cost : Binary → ℕ → ℕ
combine_cost o m = m * m * binary_cost o m

abbrev pub transform_cost : Unary → ℕ → ℕ
transform_cost unary.Converse m = m * m * 0
transform_cost unary.Closure m = m * (m * m)
transform_cost unary.Domain m = m * m * m

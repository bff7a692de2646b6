-- Values as an assignment.
use Rattle.std.specs.Prelude.{◌≡◌, ℕ, ◌<◌, List, length, Some, None, Option, ◌==◌, ◌≢◌, slice_index}
use Rattle.clauses.specs.Formulas.{Assignment, Satisfies}
use Rattle.clauses.specs.Stores.{Known, clause_at}
use Rattle.trail.specs.Trails.{IsTrueUnder}

-- the variables that are true
unfoldable pub assignment : List ℕ → Assignment
assignment values x = slice_index values x == 1

-- each of v variables has a value
abbrev pub Full : ℕ → List ℕ → Type 0
Full v values = (x : ℕ) → x < v → slice_index values x ≢ 0

-- one of v variables without a value, or all have one
abbrev pub OpenSays : ℕ → List ℕ → Option ℕ → Type 0
OpenSays v values None = Full v values
OpenSays v values (Some x) = (x < v) × (slice_index values x ≡ 0)

-- no literal of a clause is true
abbrev pub NoneTrue : List ℕ → List ℕ → Type 0
NoneTrue values clause = (p : ℕ) → p < length clause → IsTrueUnder values (slice_index clause p) → ⊥

-- the values satisfy each clause
abbrev pub AllSatisfied : List ℕ → List (List ℕ) → Type 0
AllSatisfied values f = (k : ℕ) → k < length f → Satisfies (assignment values) (clause_at f k)

-- one clause, of v variables' literals, has none that is true
pub record SomeFalse (v : ℕ) (values : List ℕ) (f : List (List ℕ)) : Type 0 where
  pub at : ℕ
  pub inside : at < length f
  pub known : Known v (clause_at f at)
  pub none : NoneTrue values (clause_at f at)

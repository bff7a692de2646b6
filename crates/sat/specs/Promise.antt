-- What the call promises.
use Rattle.std.specs.Prelude.{◌≡◌, ℕ, ◌+◌, ◌*◌, ◌/◌, ◌<◌, ◌≤◌, Bool, true, false, List, length, Ok, Err, Result}
use Rattle.clauses.specs.Formulas.{Assignment, Models}
use Rattle.clauses.specs.Stores.{formula, Clauses}
use Rattle.solver.specs.Values.{assignment}
use Rattle.sat.specs.declared.Refusal.{Refusal}
use Rattle.sat.specs.declared.Refusal.TheVariants.{Bad, Few}

-- the words that have to be lent for v variables and so many clauses
abbrev pub floor_of : ℕ → ℕ → ℕ
floor_of v clauses = 15 * v + 4 * clauses

-- they are clauses of at most 2³¹ - 2 variables, and words enough were lent
pub record Accepted (v : ℕ) (spans words : List ℕ) (room : ℕ) : Type 0 where
  pub few : v < 2147483647
  pub clauses : Clauses v spans words
  pub enough : floor_of v (length spans / 2) ≤ room

-- the values are a model; no assignment is; these are no clauses; or too few words were lent. Only a model changes the values
abbrev pub AnswerPost : List ℕ → List ℕ → List ℕ → List ℕ → ℕ → Result Bool Refusal → Type 0
AnswerPost spans words values values' room (Ok true) = Accepted (length values) spans words room × Models (formula spans words (length spans / 2)) (assignment values')
AnswerPost spans words values values' room (Ok false) = Accepted (length values) spans words room × ((α : Assignment) → Models (formula spans words (length spans / 2)) α → ⊥) × (values' ≡ values)
AnswerPost spans words values values' room (Err Bad) = ((length values < 2147483647) × Clauses (length values) spans words → ⊥) × (values' ≡ values)
AnswerPost spans words values values' room (Err Few) = (room < floor_of (length values) (length spans / 2)) × (values' ≡ values)

-- an answer as a number
abbrev pub code : Result Bool Refusal → ℕ
code (Ok false) = 0
code (Ok true) = 1
code (Err Bad) = 2
code (Err Few) = 3

-- the number says which answer it is, with what that answer promises
pub record CodePost (spans words values values' : List ℕ) (room r : ℕ) : Type 0 where
  pub answer : Result Bool Refusal
  pub is : r ≡ code answer
  pub post : AnswerPost spans words values values' room answer

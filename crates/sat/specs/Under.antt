-- What the calls under assumptions and for the first model promise.
use Rattle.std.specs.Prelude.{◌≡◌, ℕ, ◌+◌, ◌-◌, ◌/◌, ◌^◌, ◌<◌, ◌≤◌, min, Bool, true, false, List, length, Some, None, Option, Ok, Err, Result}
use Rattle.clauses.specs.Formulas.{Assignment, Models}
use Rattle.clauses.specs.Stores.{formula, Stored, Clauses}
use Rattle.solver.specs.Values.{assignment}
use Rattle.solver.specs.Assumptions.{KnownAll, HoldsAll, NoneWith}
use Rattle.descent.specs.Firsts.{FirstModel}
use Rattle.sat.specs.declared.Refusal.{Refusal}
use Rattle.sat.specs.declared.Refusal.TheVariants.{Bad, Few}
use Rattle.sat.specs.Promise.{floor_of, code}

abbrev pub clauses_of : List ℕ → List ℕ → List (List ℕ)
clauses_of spans words = formula spans words (length spans / 2)

-- they are clauses of at most 2³¹ - 2 variables, the assumptions are literals, and words enough were lent
pub record AcceptedUnder (v : ℕ) (spans words assumptions : List ℕ) (room : ℕ) : Type 0 where
  pub few : v < 2147483647
  pub clauses : Clauses v spans words
  pub known : KnownAll v assumptions
  pub enough : floor_of v (length spans / 2) ≤ room

-- the values are a model with the assumptions; no assignment is; these are no clauses or no assumptions; or too few words were lent. Only a model changes the values
abbrev pub UnderPost : List ℕ → List ℕ → List ℕ → List ℕ → List ℕ → ℕ → Result Bool Refusal → Type 0
UnderPost spans words assumptions values values' room (Ok true) = AcceptedUnder (length values) spans words assumptions room × Models (clauses_of spans words) (assignment values') × HoldsAll (assignment values') assumptions (length assumptions)
UnderPost spans words assumptions values values' room (Ok false) = AcceptedUnder (length values) spans words assumptions room × NoneWith (clauses_of spans words) assumptions (length assumptions) × (values' ≡ values)
UnderPost spans words assumptions values values' room (Err Bad) = ((length values < 2147483647) × Clauses (length values) spans words × KnownAll (length values) assumptions → ⊥) × (values' ≡ values)
UnderPost spans words assumptions values values' room (Err Few) = (room < floor_of (length values) (length spans / 2)) × (values' ≡ values)

-- the number says which answer it is, with what that answer promises
pub record UnderCodePost (spans words assumptions values values' : List ℕ) (room r : ℕ) : Type 0 where
  pub answer : Result Bool Refusal
  pub is : r ≡ code answer
  pub post : UnderPost spans words assumptions values values' room answer

-- the first so many spans and words are clauses of at most 2³¹ - 2 variables, and the range is of them
pub record Asked (v : ℕ) (spans words : List ℕ) (count used high : ℕ) : Type 0 where
  pub few : v < 2147483647
  pub clauses : Stored v spans words count used
  pub range : high ≤ v

-- there is room for a clause of one literal for each variable of the range, and words enough were lent
pub record Fitting (v : ℕ) (spans words : List ℕ) (count used low high room : ℕ) : Type 0 where
  pub spans_room : count + (high - low) ≤ length spans / 2
  pub words_room : used + (high - low) ≤ length words
  pub small : used + (high - low) < 2 ^ 32
  pub enough : floor_of v count ≤ room

-- the values are the first model, with at most as many questions as variables of the range; no assignment is a model; or refused. Only a model changes the values
abbrev pub FirstPost : List ℕ → List ℕ → ℕ → ℕ → ℕ → ℕ → List ℕ → List ℕ → ℕ → Result (Option ℕ) Refusal → Type 0
FirstPost spans words count used low high values values' room (Ok (Some n)) = Asked (length values) spans words count used high × Fitting (length values) spans words count used low high room × FirstModel (formula spans words count) (assignment values') low high × (low < high → n ≤ high - low)
FirstPost spans words count used low high values values' room (Ok None) = Asked (length values) spans words count used high × Fitting (length values) spans words count used low high room × ((α : Assignment) → Models (formula spans words count) α → ⊥) × (values' ≡ values)
FirstPost spans words count used low high values values' room (Err Bad) = (Asked (length values) spans words count used high → ⊥) × (values' ≡ values)
FirstPost spans words count used low high values values' room (Err Few) = Asked (length values) spans words count used high × (Fitting (length values) spans words count used low high room → ⊥) × (values' ≡ values)

-- there is room for the units of a range, behind clauses of so many literals, in so many spans and words
pub record Roomy (v : ℕ) (spans words : List ℕ) (spare_spans spare_words low high room : ℕ) : Type 0 where
  pub spans_room : high - low ≤ spare_spans / 2
  pub words_room : high - low ≤ spare_words
  pub small : length words + (high - low) < 2 ^ 32
  pub enough : floor_of v (length spans / 2) ≤ room

-- the same of clauses and of the memory behind them
abbrev pub FirstOf : List ℕ → List ℕ → ℕ → ℕ → ℕ → ℕ → List ℕ → List ℕ → ℕ → Result (Option ℕ) Refusal → Type 0
FirstOf spans words more_spans more_words low high values values' room (Ok (Some n)) = Clauses (length values) spans words × Roomy (length values) spans words more_spans more_words low high room × FirstModel (clauses_of spans words) (assignment values') low high × (low < high → n ≤ high - low)
FirstOf spans words more_spans more_words low high values values' room (Ok None) = Clauses (length values) spans words × Roomy (length values) spans words more_spans more_words low high room × ((α : Assignment) → Models (clauses_of spans words) α → ⊥) × (values' ≡ values)
FirstOf spans words more_spans more_words low high values values' room (Err Bad) = (Clauses (length values) spans words → ⊥) × (values' ≡ values)
FirstOf spans words more_spans more_words low high values values' room (Err Few) = Clauses (length values) spans words × (Roomy (length values) spans words more_spans more_words low high room → ⊥) × (values' ≡ values)

abbrev pub first_code : Result (Option ℕ) Refusal → ℕ
first_code (Ok None) = 0
first_code (Err Bad) = 1
first_code (Err Few) = 2
first_code (Ok (Some n)) = min (n + 2) 18446744073709551615

pub record FirstCodePost (spans words : List ℕ) (count used low high : ℕ) (values values' : List ℕ) (room r : ℕ) : Type 0 where
  pub answer : Result (Option ℕ) Refusal
  pub is : r ≡ first_code answer
  pub post : FirstPost spans words count used low high values values' room answer

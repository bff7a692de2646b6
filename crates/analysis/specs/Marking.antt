-- Conflict analysis: variables are marked such that every model differs from the values at a marked one.
use Rattle.std.specs.Prelude.{◌≡◌, ℕ, ◌+◌, ◌*◌, ◌/◌, ◌<◌, ◌≤◌, true, cond, ◌⊎◌, List, length, ◌==◌, ◌≢◌, slice_index, slice_index_or}
use Rattle.clauses.specs.Formulas.{Assignment, value, Models}
use Rattle.clauses.specs.Stores.{Known}
use Rattle.trail.specs.Trails.{IsFalseUnder, OnTrail}
use Rattle.analysis.specs.Views.{AnalysisView}
use Rattle.propagation.specs.Views.{SearchView, variables_of, formula_of}

-- marks for v variables: each marked one is listed, and what is listed is a variable
pub record Noted (v : ℕ) (seen touched : List ℕ) (count : ℕ) : Type 0 where
  pub size : length seen ≡ v
  pub room : count ≤ length touched
  pub small : (x : ℕ) → slice_index seen x ≤ 1
  pub listed : (x : ℕ) → slice_index seen x ≡ 1 → OnTrail touched count x
  pub known : (i : ℕ) → i < count → slice_index touched i < v

-- an analysis for as many variables as a search has
abbrev pub Fits : AnalysisView → SearchView → Type 0
Fits a s = length a.seen ≡ variables_of s

-- the literal of a variable that is false
abbrev pub literal_of : List ℕ → ℕ → ℕ
literal_of values x = cond (slice_index values x == 1) (2 * x + 1) (2 * x)

-- what was marked still is
abbrev pub Grown : List ℕ → List ℕ → Type 0
Grown seen seen' = (x : ℕ) → slice_index seen x ≡ 1 → slice_index seen' x ≡ 1

-- no model makes the literal true
abbrev pub Never : List (List ℕ) → ℕ → Type 0
Never f l = (α : Assignment) → Models f α → value α l ≢ true

-- an assignment differs from the values at a marked variable
pub record Differs (values seen : List ℕ) (α : Assignment) : Type 0 where
  pub literal : ℕ
  pub is_false : IsFalseUnder values literal
  pub marked : slice_index_or seen (literal / 2) 0 ≡ 1
  pub holds : value α literal ≡ true

abbrev pub Apart : List (List ℕ) → List ℕ → List ℕ → Type 0
Apart f values seen = (α : Assignment) → Models f α → Differs values seen α

-- a literal of another variable than another one's is false, and marked or true in no model
pub record Taken (f : List (List ℕ)) (values seen : List ℕ) (except l : ℕ) : Type 0 where
  pub is_false : IsFalseUnder values l
  pub other : l / 2 ≡ except / 2 → ⊥
  pub marked : (slice_index seen (l / 2) ≡ 1) ⊎ Never f l

-- so are all literals of a clause but one
abbrev pub AllTaken : List (List ℕ) → List ℕ → List ℕ → List ℕ → ℕ → Type 0
AllTaken f values seen clause except = (p : ℕ) → p < length clause → slice_index clause p ≢ except → Taken f values seen except (slice_index clause p)

-- every model makes a literal of some variable true, or differs from the values at another marked variable
pub record Elsewhere (values seen : List ℕ) (except : ℕ) (α : Assignment) : Type 0 where
  pub differs : Differs values seen α
  pub other : differs.literal / 2 ≡ except / 2 → ⊥

abbrev pub Absorbed : List (List ℕ) → ℕ → List ℕ → List ℕ → ℕ → Type 0
Absorbed f v values seen except = (α : Assignment) → Models f α → ((except / 2 < v) × (value α except ≡ true)) ⊎ Elsewhere values seen except α

-- the same of what the code sees
abbrev pub ApartA : SearchView → AnalysisView → Type 0
ApartA s a = Apart (formula_of s) s.trail.values a.seen

-- a clause of literals of v variables, with the false one of each variable of a list that is marked
pub record Gathered (v : ℕ) (values seen variables clause : List ℕ) : Type 0 where
  pub known : Known v clause
  pub each : (i : ℕ) → i < length variables → slice_index seen (slice_index variables i) ≡ 1 → OnTrail clause (length clause) (literal_of values (slice_index variables i))

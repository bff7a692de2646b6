-- What a clause that follows does to the trail.
use Rattle.std.specs.Prelude.{◌≡◌, ℕ, ◌/◌, ◌<◌, ◌≤◌, ◌⊎◌, List, length, ◌≢◌, slice_index}
use Rattle.clauses.specs.Formulas.{negation}
use Rattle.clauses.specs.Stores.{Known, Follows}
use Rattle.trail.specs.Trails.{OnTrail}
use Rattle.propagation.specs.Views.{SearchView, variables_of, formula_of}

-- a clause of the search's variables that every model satisfies
pub record Taught (s : SearchView) (c : List ℕ) : Type 0 where
  pub known : Known (variables_of s) c
  pub follows : Follows (formula_of s) c

-- a literal is another one, or its negation stands before a place
abbrev pub Against : List ℕ → ℕ → ℕ → ℕ → Type 0
Against literals before one l = (l ≡ one) ⊎ OnTrail literals before (negation l)

-- a place is above those that are noted of a clause's literals but one
abbrev pub Above : List ℕ → List ℕ → ℕ → ℕ → Type 0
Above places clause one p = (j : ℕ) → j < length clause → slice_index clause j ≢ one → slice_index places (slice_index clause j / 2) < p

-- the lowest decision among the n places that is above them, or n where there is none
pub record LowestDecision (marks places clause : List ℕ) (n one p : ℕ) : Type 0 where
  pub within : p ≤ n
  pub decided : p < n → slice_index marks p ≡ 1
  pub above : p < n → Above places clause one p
  pub lowest : (q : ℕ) → q < p → Above places clause one q → slice_index marks q ≢ 1

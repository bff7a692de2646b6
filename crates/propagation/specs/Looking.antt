-- What a look at a clause says under the values of a trail.
use Rattle.std.specs.Prelude.{◌≡◌, ℕ, ◌+◌, ◌/◌, ◌<◌, true, List, length, Some, None, Option, ◌≢◌, slice_index, slice_set}
use Rattle.clauses.specs.Formulas.{Assignment, value}
use Rattle.trail.specs.Trails.{IsFalseUnder, Jammed, Forced}
use Rattle.propagation.specs.Views.{CausesView, SearchView, variables_of, numbers_of}
use Rattle.propagation.specs.declared.search.Look.{Look}
use Rattle.propagation.specs.declared.search.Look.TheVariants.{Replace, Implied, Conflict}

-- all literals of a clause but one are false
abbrev pub OthersFalse : List ℕ → List ℕ → ℕ → Type 0
OthersFalse values clause other = (p : ℕ) → p < length clause → slice_index clause p ≢ other → IsFalseUnder values (slice_index clause p)

-- a literal to watch; the other watched literal has no value, and all others are false; or it is false, too
abbrev pub LookSays : ℕ → List ℕ → List ℕ → ℕ → Look → Type 0
LookSays v values clause other (Replace l) = l / 2 < v
LookSays v values clause other Implied = (slice_index values (other / 2) ≡ 0) × OthersFalse values clause other
LookSays v values clause other Conflict = IsFalseUnder values other × OthersFalse values clause other

-- the other watched literal is true in every model with the decisions; or there is no such model
abbrev pub LookFinds : SearchView → ℕ → ℕ → Look → Type 0
LookFinds s number other (Replace l) = l / 2 < variables_of s
LookFinds s number other Implied = (other / 2 < variables_of s) × (slice_index s.trail.values (other / 2) ≡ 0) × Forced s.trail s.trail.len other
LookFinds s number other Conflict = Jammed s.trail × (number < numbers_of s)

-- an assignment differs from the values: it makes a literal true that is false under them
pub record Differs (values : List ℕ) (α : Assignment) : Type 0 where
  pub literal : ℕ
  pub is_false : IsFalseUnder values literal
  pub holds : value α literal ≡ true

-- a reason in a word: the number of a clause plus one, and 0 where there is none
abbrev pub reason_word : Option ℕ → ℕ
reason_word None = 0
reason_word (Some clause) = clause + 1

-- of one variable it is noted why, at which level and where it has its value; of the others nothing changed
pub record NotedCause (s t : CausesView) (variable reason level place : ℕ) : Type 0 where
  pub reasons : t.reasons ≡ slice_set s.reasons variable reason
  pub levels : t.levels ≡ slice_set s.levels variable level
  pub places : t.places ≡ slice_set s.places variable place

-- The first model: by the variables of a range in their sequence, false first.
use Rattle.std.specs.Prelude.{◌≡◌, ℕ, ◌+◌, ◌-◌, ◌*◌, ◌^◌, ◌<◌, ◌≤◌, true, false, cond, ◌⊎◌, List, [], ◌∷◌, length, Some, None, Option}
use Rattle.clauses.specs.Views.{StoreView}
use Rattle.clauses.specs.Formulas.{Assignment, Models}
use Rattle.solver.specs.Values.{assignment}
use Rattle.solver.specs.Assumptions.{NoneWith}

-- two assignments are the same from a variable up to another
abbrev pub Agree : Assignment → Assignment → ℕ → ℕ → Type 0
Agree α β low high = (x : ℕ) → low ≤ x → x < high → β x ≡ α x

-- β comes before α: at the first variable of the range where they differ, β is false
pub record Lower (α β : Assignment) (low high : ℕ) : Type 0 where
  pub at : ℕ
  pub from : low ≤ at
  pub inside : at < high
  pub same : Agree α β low at
  pub zero : β at ≡ false
  pub one : α at ≡ true

-- α is a model, and none comes before it
pub record FirstModel (f : List (List ℕ)) (α : Assignment) (low high : ℕ) : Type 0 where
  pub model : Models f α
  pub none_lower : (β : Assignment) → Models f β → Lower α β low high → ⊥

-- the variables of f before a place are settled in g, as the first model has them, and α is a model of g
pub record Settled (f g : List (List ℕ)) (α : Assignment) (low place : ℕ) : Type 0 where
  pub model : Models g α
  pub within : (β : Assignment) → Models g β → Models f β × Agree α β low place
  pub keeps : (β : Assignment) → Models f β → Agree α β low place → Models g β
  pub none_lower : (β : Assignment) → Models f β → Lower α β low place → ⊥

-- α is false at a place, or no model is
abbrev pub Lowest : List (List ℕ) → Assignment → ℕ → Type 0
Lowest g α place = (α place ≡ false) ⊎ NoneWith g ((2 * place + 1) ∷ []) 1

-- the literal of a variable that an assignment makes true
abbrev pub literal_for : Assignment → ℕ → ℕ
literal_for α x = cond (α x) (2 * x) (2 * x + 1)

-- so many clauses of one literal more fit
pub record Room (s : StoreView) (more : ℕ) : Type 0 where
  pub spans : 2 * (length s.formula + more) ≤ length s.spans.now
  pub words : s.used + more ≤ length s.words.now
  pub small : s.used + more < 2 ^ 32

-- the first model, with at most as many questions as variables of the range; or there is none, and the values are as they were
pub record FoundFirst (f : List (List ℕ)) (low high : ℕ) (values : List ℕ) (questions : ℕ) : Type 0 where
  pub first : FirstModel f (assignment values) low high
  pub few : low < high → questions ≤ high - low

pub record FoundNone (f : List (List ℕ)) (values values' : List ℕ) : Type 0 where
  pub none : (α : Assignment) → Models f α → ⊥
  pub same : values' ≡ values

abbrev pub FirstSays : List (List ℕ) → ℕ → ℕ → List ℕ → List ℕ → Option ℕ → Type 0
FirstSays f low high values values' None = FoundNone f values values'
FirstSays f low high values values' (Some n) = FoundFirst f low high values' n

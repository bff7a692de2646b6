-- Assumptions, and what comes of deciding on.
use Rattle.std.specs.Prelude.{◌≡◌, ℕ, ◌/◌, ◌<◌, true, ◌⊎◌, List, length, Some, None, Option, slice_index, slice_index_or}
use Rattle.clauses.specs.Formulas.{Assignment, value, Models}
use Rattle.trail.specs.Views.{TrailView, variables_of, formula_of}
use Rattle.trail.specs.Trails.{IsTrueUnder, IsFalseUnder, OnTrail, SameClauses, Falls, AssumedT}
use Rattle.solver.specs.Values.{Full}
use Rattle.solver.specs.declared.assumptions.Wanted.{Wanted}
use Rattle.solver.specs.declared.assumptions.Wanted.TheVariants.{Refuted, Open, Settled}
use Rattle.solver.specs.declared.assumptions.Step.{Step}
use Rattle.solver.specs.declared.assumptions.Step.TheVariants as step

-- every assumption is a literal of one of v variables
abbrev pub KnownAll : ℕ → List ℕ → Type 0
KnownAll v assumptions = (i : ℕ) → i < length assumptions → slice_index assumptions i / 2 < v

-- an assignment makes the first k assumptions true
abbrev pub HoldsAll : Assignment → List ℕ → ℕ → Type 0
HoldsAll α assumptions k = (i : ℕ) → i < k → value α (slice_index assumptions i) ≡ true

-- no model makes all of these true
abbrev pub NoneWith : List (List ℕ) → List ℕ → ℕ → Type 0
NoneWith f assumptions k = (α : Assignment) → Models f α → HoldsAll α assumptions k → ⊥

-- all are true under the values
abbrev pub TrueAll : List ℕ → List ℕ → ℕ → Type 0
TrueAll values assumptions k = (i : ℕ) → i < k → IsTrueUnder values (slice_index assumptions i)

-- one is false
pub record OneFalse (values assumptions : List ℕ) (k : ℕ) : Type 0 where
  pub at : ℕ
  pub inside : at < k
  pub is_false : IsFalseUnder values (slice_index assumptions at)

-- one has no value yet
pub record OneOpen (v : ℕ) (values assumptions : List ℕ) (k l : ℕ) : Type 0 where
  pub listed : OnTrail assumptions k l
  pub known : l / 2 < v
  pub free : slice_index_or values (l / 2) 0 ≡ 0

abbrev pub WantedSays : ℕ → List ℕ → List ℕ → ℕ → Wanted → Type 0
WantedSays v values assumptions k Refuted = OneFalse values assumptions k
WantedSays v values assumptions k (Open l) = OneOpen v values assumptions k l
WantedSays v values assumptions k Settled = TrueAll values assumptions k

-- a literal of a variable without a value, or all have one
abbrev pub LiteralSays : ℕ → List ℕ → Option ℕ → Type 0
LiteralSays v values None = Full v values
LiteralSays v values (Some l) = (l / 2 < v) × (slice_index values (l / 2) ≡ 0)

-- an assumption, or all of these stand on the trail
abbrev pub NextDecision : List ℕ → ℕ → List ℕ → ℕ → ℕ → Type 0
NextDecision assumptions k literals n l = OnTrail assumptions k l ⊎ ((i : ℕ) → i < k → OnTrail literals n (slice_index assumptions i))

-- a decision more; no model has all assumptions; or every variable has a value, and the assumptions are true
pub record DecidedMore (assumptions : List ℕ) (k : ℕ) (s t : TrailView) : Type 0 where
  pub clauses : SameClauses s t
  pub assumed : AssumedT assumptions k t
  pub less : Falls s t

pub record RefutedHere (assumptions : List ℕ) (k : ℕ) (s t : TrailView) : Type 0 where
  pub clauses : SameClauses s t
  pub none : NoneWith (formula_of t) assumptions k

pub record CompleteHere (assumptions : List ℕ) (k : ℕ) (s t : TrailView) : Type 0 where
  pub same : t ≡ s
  pub full : Full (variables_of t) t.values
  pub holds : TrueAll t.values assumptions k

abbrev pub StepSays : List ℕ → ℕ → TrailView → TrailView → Step → Type 0
StepSays assumptions k s t step.Decided = DecidedMore assumptions k s t
StepSays assumptions k s t step.Refuted = RefutedHere assumptions k s t
StepSays assumptions k s t step.Complete = CompleteHere assumptions k s t

-- all wishes are in force, or no model has them all
abbrev pub Wished : List (List ℕ) → List ℕ → ℕ → Type 0
Wished f assumptions k = (k ≡ length assumptions) ⊎ NoneWith f assumptions (length assumptions)

-- The clauses of a circuit.
use Rattle.std.specs.Prelude.{◌≡◌, ℕ, ◌+◌, ◌*◌, ◌^◌, ◌<◌, ◌≤◌, Bool, false, ◌||◌, List, [], ◌∷◌, length, Ok, Err, Result}
use Rattle.clauses.specs.declared.store.Unfit.{Unfit}
use Rattle.clauses.specs.declared.store.Unfit.TheVariants as unfit
use Rattle.clauses.specs.Formulas.{Assignment, value, Models}
use Rattle.clauses.specs.Views.{StoreView}
use Rattle.clauses.specs.Stores.{SameMemory, InOrder}
use Rattle.gates.specs.declared.circuit.Circuit.{Circuit}
use Rattle.gates.specs.Words.{output}
use Rattle.gates.specs.Views.{CircuitView, view, GoesV, MeetsV}

-- one of a clause's literals is true
abbrev pub satisfied : Assignment → List ℕ → Bool
satisfied α [] = false
satisfied α (l ∷ c) = value α l || satisfied α c

-- a store has so many clauses and literals more, which say Q
pub record Writes (s : StoreView) (clauses literals : ℕ) (Q : Assignment → Type 0) (t : StoreView) : Type 0 where
  pub memory : SameMemory s t
  pub count : length t.formula ≡ length s.formula + clauses
  pub used : t.used ≡ s.used + literals
  pub says : (α : Assignment) → Models t.formula α → Models s.formula α × Q α
  pub means : (α : Assignment) → Models s.formula α → Q α → Models t.formula α

-- there is room for so many
pub record Room (s : StoreView) (clauses literals : ℕ) : Type 0 where
  pub spans : 2 * (length s.formula + clauses) ≤ length s.spans.now
  pub words : s.used + literals ≤ length s.words.now
  pub small : s.used + literals < 2 ^ 32

-- refused only for want of room for all; the store may have some of them
abbrev pub Refused : StoreView → ℕ → ℕ → Unfit → Type 0
Refused s clauses literals unfit.Literal = ⊥
Refused s clauses literals unfit.Room = Room s clauses literals → ⊥

abbrev pub WritesIf : StoreView → ℕ → ℕ → (Assignment → Type 0) → StoreView → Result (Unit {0}) Unfit → Type 0
WritesIf s clauses literals Q t (Ok _) = Writes s clauses literals Q t
WritesIf s clauses literals Q t (Err e) = Refused s clauses literals e

-- where the spans of a store's clauses are in order, those of the other one are; refused or not
abbrev pub StaysInOrder : StoreView → StoreView → Type 0
StaysInOrder s t = InOrder s.spans.now (length s.formula) → InOrder t.spans.now (length t.formula)

-- the first n gates have their values
abbrev pub Valued : ℕ → List ℕ → ℕ → Assignment → Type 0
Valued base g n α = (k : ℕ) → k < n → α (base + k) ≡ output g k α

-- how many clauses and literals a circuit has
abbrev pub clauses_in : CircuitView → ℕ
clauses_in c = 1 + 4 * c.count + c.claimed

abbrev pub literals_in : CircuitView → ℕ
literals_in c = 1 + 11 * c.count + 3 * c.claimed

abbrev pub clauses_of : Circuit → ℕ
clauses_of c = clauses_in (view c)

abbrev pub literals_of : Circuit → ℕ
literals_of c = literals_in (view c)

-- the models of what was written are the assignments that go with the gates and meet the claims
pub record WrittenV (c : CircuitView) (t : StoreView) : Type 0 where
  pub count : length t.formula ≡ clauses_in c
  pub used : t.used ≡ literals_in c
  pub goes : (α : Assignment) → Models t.formula α → GoesV c α
  pub meets : (α : Assignment) → Models t.formula α → MeetsV c α
  pub models : (α : Assignment) → GoesV c α → MeetsV c α → Models t.formula α

abbrev pub Written : Circuit → StoreView → Type 0
Written c t = WrittenV (view c) t

abbrev pub WrittenIf : Circuit → StoreView → StoreView → Result (Unit {0}) Unfit → Type 0
WrittenIf c s t (Ok _) = SameMemory s t × Written c t
WrittenIf c s t (Err e) = Refused s (clauses_of c) (literals_of c) e

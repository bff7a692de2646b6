-- Which pictures a circuit leaves.
use Rattle.std.specs.Prelude.{◌≡◌, ℕ, ◌*◌, ◌<◌, Bool, true, List}
use Rattle.descriptions.specs.Pictures.{Picture}
use Rattle.descriptions.specs.Meaning.{Description, of}
use Rattle.descriptions.specs.Bytes.{Reads}
use Rattle.descriptions.specs.Theorems.{Sized}
use Rattle.descriptions.specs.First.{FirstOfSize}
use Rattle.clauses.specs.Formulas.{Assignment}
use Rattle.gates.specs.declared.circuit.Circuit.{Circuit}
use Rattle.gates.specs.Views.{CircuitView, view, GoesV, MeetsV, SoundV}
use Rattle.firsts.specs.Leaders.{Earlier}
use Rattle.leaders.specs.Leading.{Draws, Each, LeadsV}

-- some assignment goes with the gates, meets the claims and draws the picture
pub record DrawnV (c : CircuitView) (p : Picture) : Type 0 where
  pub assignment : Assignment
  pub goes : GoesV c assignment
  pub meets : MeetsV c assignment
  pub draws : Draws assignment p

abbrev pub Drawn : Circuit → Picture → Type 0
Drawn c p = DrawnV (view c) p

-- the claims say that the picture drawn is of the description
abbrev pub SaysOfV : Description → ℕ → CircuitView → Type 0
SaysOfV d m c = (α : Assignment) (p : Picture) → Sized d m p → GoesV c α → Draws α p → (MeetsV c α → of d m p ≡ true) × (of d m p ≡ true → MeetsV c α)

abbrev pub SaysOf : Description → ℕ → Circuit → Type 0
SaysOf d m c = SaysOfV d m (view c)

-- symmetry is broken: only pictures of the description are left; of those that are left out an earlier one, with things changed about, is of the description, too; and the first is left
pub record BrokenV (d : Description) (m : ℕ) (c : CircuitView) : Type 0 where
  pub within : (p : Picture) → Sized d m p → DrawnV c p → of d m p ≡ true
  pub replaced : (p : Picture) → Sized d m p → of d m p ≡ true → (DrawnV c p → ⊥) → Earlier d m p
  pub keeps : (p : Picture) → FirstOfSize d m p → DrawnV c p

abbrev pub Broken : Description → ℕ → Circuit → Type 0
Broken d m c = BrokenV d m (view c)

-- chains of transpositions break it, whichever are there; the gates and claims before them need not be sound
abbrev pub ChainsBreak : Type 0
ChainsBreak = (bytes : List ℕ) (d : Description) (m gates claims : ℕ) (s t : CircuitView) (all : Bool) → Reads bytes d → d.relations * (m * m) < s.base → SaysOfV d m s → SoundV t → LeadsV s d.relations m gates claims Each t all → BrokenV d m t

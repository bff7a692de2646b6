-- Gates and claims that a picture leads.
use Rattle.std.specs.Prelude.{◌≡◌, ℕ, ◌+◌, ◌-◌, ◌*◌, ◌<◌, ◌≤◌, max, Bool, true, false, not, ◌&&◌, ◌||◌, ◌⊎◌, length, Some, None, Option, slice_index}
use Rattle.descriptions.specs.Pictures.{Picture}
use Rattle.clauses.specs.Formulas.{Assignment, value}
use Rattle.gates.specs.declared.circuit.Circuit.{Circuit}
use Rattle.gates.specs.Circuits.{GoesC, MeetsC, GivesC}
use Rattle.gates.specs.Views.{CircuitView, view, GoesV, MeetsV}
use Rattle.firsts.specs.Leaders.{bit_of, led, Leader}

-- an assignment draws a picture: its bits are the variables from 1 on
abbrev pub Draws : Assignment → Picture → Type 0
Draws α p = (k : ℕ) → k < length p → α (1 + k) ≡ bit_of p k

-- gates and claims are only added
pub record ExtendedV (s t : CircuitView) : Type 0 where
  pub base : t.base ≡ s.base
  pub more : s.count ≤ t.count
  pub size : length t.words ≡ length s.words
  pub kept : (i : ℕ) → i < 3 * s.count → slice_index t.words i ≡ slice_index s.words i
  pub claims_more : s.claimed ≤ t.claimed
  pub claims_size : length t.claims ≡ length s.claims
  pub met : (α : Assignment) → MeetsV t α → MeetsV s α

abbrev pub Extended : Circuit → Circuit → Type 0
Extended s t = ExtendedV (view s) (view t)

-- there is no room for a gate, or for a claim
abbrev pub NoRoomV : CircuitView → Type 0
NoRoomV c = (length c.words < 3 * c.count + 3) ⊎ (length c.claims < 3 * c.claimed + 3)

abbrev pub NoRoom : Circuit → Type 0
NoRoom c = NoRoomV (view c)

-- a bit x here and y that comes here: something before was smaller already, which g says, or x is not larger than y
abbrev pub passes : Assignment → ℕ → ℕ → ℕ → Bool
passes α g x y = value α g || (not (value α x) || value α y)

-- one link: at most one gate and one claim more, and nothing is claimed but that it passes
pub record Linked (s : Circuit) (g x y : ℕ) (t : Circuit) : Type 0 where
  pub extends : Extended s t
  pub few : t.count ≤ s.count + 1
  pub claims_few : t.claimed ≤ s.claimed + 1
  pub meets : (α : Assignment) → MeetsC s α → passes α g x y ≡ true → MeetsC t α

-- which is claimed; and the literal of 'smaller already' for the next place
pub record Links (s : Circuit) (g x y : ℕ) (t : Circuit) (l : ℕ) : Type 0 where
  pub linked : Linked s g x y t
  pub gives : GivesC t l (λ α. value α g || (not (value α x) && value α y))
  pub passed : (α : Assignment) → MeetsC t α → passes α g x y ≡ true

-- or there is no room
pub record Breaks (s : Circuit) (g x y : ℕ) (t : Circuit) : Type 0 where
  pub linked : Linked s g x y t
  pub refused : NoRoom t

abbrev pub LinksIf : Circuit → ℕ → ℕ → ℕ → Circuit → Option ℕ → Type 0
LinksIf s g x y t (Some l) = Links s g x y t l
LinksIf s g x y t None = Breaks s g x y t

-- a chain: the claims that it adds are true of all that leads; and if it is whole, of nothing else
pub record Chains (s : Circuit) (n m a b : ℕ) (t : Circuit) (whole : Bool) : Type 0 where
  pub extends : Extended s t
  pub few : t.count ≤ s.count + 2 * (n * (m - 1))
  pub claims_few : t.claimed ≤ s.claimed + 2 * (n * (m - 1))
  pub keeps : (α : Assignment) (p : Picture) → length p ≡ n * (m * m) → GoesC t α → Draws α p → led n m a b p ≡ true → MeetsC s α → MeetsC t α
  pub leads : whole ≡ true → (α : Assignment) (p : Picture) → length p ≡ n * (m * m) → GoesC t α → Draws α p → MeetsC t α → led n m a b p ≡ true
  pub refused : whole ≡ false → NoRoom t

-- there is no room for another chain, within so many gates and claims or in memory
abbrev pub CrowdedV : ℕ → ℕ → ℕ → ℕ → CircuitView → Type 0
CrowdedV n m gates claims t = (gates < t.count + 2 * (n * (m - 1))) ⊎ ((claims < t.claimed + 2 * (n * (m - 1))) ⊎ NoRoomV t)

abbrev pub Crowded : ℕ → ℕ → ℕ → ℕ → Circuit → Type 0
Crowded n m gates claims t = CrowdedV n m gates claims (view t)

-- pairs of things that change places: one pair, those of a thing with some before it, neighbours, and each
abbrev pub OnePair : ℕ → ℕ → ℕ → ℕ → Type 0
OnePair one other a b = (a ≡ one) × (b ≡ other)

abbrev pub Before : ℕ → ℕ → ℕ → ℕ → ℕ → Type 0
Before other low high a b = (b ≡ other) × ((low ≤ a) × (a < high))

abbrev pub Adjacent : ℕ → ℕ → Type 0
Adjacent a b = b ≡ a + 1

abbrev pub Each : ℕ → ℕ → Type 0
Each a b = Unit {0}

-- chains of such pairs, within so many gates and claims: what they add is true of every leader; and if all are there, only of what leads for each pair
pub record LeadsV (s : CircuitView) (n m gates claims : ℕ) (Pair : ℕ → ℕ → Type 0) (t : CircuitView) (all : Bool) : Type 0 where
  pub extends : ExtendedV s t
  pub few : t.count ≤ max s.count gates
  pub claims_few : t.claimed ≤ max s.claimed claims
  pub keeps : (α : Assignment) (p : Picture) → length p ≡ n * (m * m) → GoesV t α → Draws α p → Leader n m p → MeetsV s α → MeetsV t α
  pub leads : all ≡ true → (α : Assignment) (p : Picture) → length p ≡ n * (m * m) → GoesV t α → Draws α p → MeetsV t α → (a b : ℕ) → a < b → b < m → Pair a b → led n m a b p ≡ true
  pub refused : all ≡ false → CrowdedV n m gates claims t

abbrev pub Leads : Circuit → ℕ → ℕ → ℕ → ℕ → (ℕ → ℕ → Type 0) → Circuit → Bool → Type 0
Leads s n m gates claims Pair t all = LeadsV (view s) n m gates claims Pair (view t) all

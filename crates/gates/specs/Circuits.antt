-- Circuits, and what is said of them.
use Rattle.std.specs.Prelude.{◌≡◌, ℕ, ◌+◌, ◌*◌, ◌<◌, Bool, true, List, length, Some, None, Option, slice_index_or}
use Rattle.clauses.specs.Formulas.{Assignment, value}
use Rattle.gates.specs.declared.folding.Inputs.{Inputs}
use Rattle.gates.specs.declared.sharing.Place.{Place}
use Rattle.gates.specs.declared.sharing.Place.TheVariants.{Gate, Entry, Nowhere}
use Rattle.gates.specs.declared.circuit.Circuit.{Circuit}
use Rattle.gates.specs.Words.{mix, either, Goes, Meets, Grows, Adds, Gives}

-- what is said of words, of a circuit's
abbrev pub GoesC : Circuit → Assignment → Type 0
GoesC c α = Goes c.base c.words.now c.count α

abbrev pub MeetsC : Circuit → Assignment → Type 0
MeetsC c α = Meets c.claims.now c.claimed α

abbrev pub GrewC : Circuit → Circuit → Type 0
GrewC c d = Grows c.base c.words.now c.count c.claims.now c.claimed d.base d.words.now d.count d.claims.now d.claimed

abbrev pub AddsC : Circuit → Circuit → ℕ → Type 0
AddsC c d most = Adds c.base c.words.now c.count c.claims.now c.claimed d.base d.words.now d.count d.claims.now d.claimed most

abbrev pub GivesC : Circuit → ℕ → (Assignment → Bool) → Type 0
GivesC c l v = Gives c.base c.words.now c.count l v

-- a literal of an input or of a gate that there is
abbrev pub InC : Circuit → ℕ → Type 0
InC c l = l < 2 * (c.base + c.count)

-- there is no room for another gate
abbrev pub Full : Circuit → Type 0
Full c = length c.words.now < 3 * c.count + 3

-- what came: None only where there was no room
abbrev pub Came : {R : Type 0} → Circuit → Option R → (R → Type 0) → Type 0
Came {R} c None P = Full c
Came {R} c (Some r) P = P r

-- one claim more, that one of three literals is true, and the gates as they were
pub record Claims (s : Circuit) (a b c : ℕ) (t : Circuit) : Type 0 where
  pub base : t.base ≡ s.base
  pub words : t.words.now ≡ s.words.now
  pub count : t.count ≡ s.count
  pub size : length t.claims.now ≡ length s.claims.now
  pub counts : t.claimed ≡ s.claimed + 1
  pub meets : (α : Assignment) → MeetsC s α → either α a b c ≡ true → MeetsC t α
  pub met : (α : Assignment) → MeetsC t α → MeetsC s α × (either α a b c ≡ true)

-- nothing is changed
pub record Unchanged (s t : Circuit) : Type 0 where
  pub base : t.base ≡ s.base
  pub words : t.words.now ≡ s.words.now
  pub count : t.count ≡ s.count
  pub claims : t.claims.now ≡ s.claims.now
  pub counts : t.claimed ≡ s.claimed

-- refused, with nothing changed, only for want of room
abbrev pub ClaimsIf : Circuit → ℕ → ℕ → ℕ → Circuit → Option (Unit {0}) → Type 0
ClaimsIf s a b c t (Some _) = Claims s a b c t
ClaimsIf s a b c t None = Unchanged s t × (length s.claims.now < 3 * s.claimed + 3)

-- literals that make the same gate, wherever variable 0 is true
pub record Reordered (p x y : ℕ) (i : Inputs) : Type 0 where
  pub low : (b : ℕ) → p < b → x < b → y < b → (i.p < b) × (i.x < b) × (i.y < b)
  pub is : (α : Assignment) → α 0 ≡ true → mix α i.p i.x i.y ≡ mix α p x y

-- the literal that a gate comes to where it needs none
pub record Folded (p x y l : ℕ) : Type 0 where
  pub low : (b : ℕ) → p < b → x < b → y < b → l < b
  pub is : (α : Assignment) → α 0 ≡ true → value α l ≡ mix α p x y

abbrev pub Folds : ℕ → ℕ → ℕ → Option ℕ → Type 0
Folds p x y None = Unit {0}
Folds p x y (Some l) = Folded p x y l

-- a gate with these three words stands at a place
pub record Stands (g : List ℕ) (n p x y k : ℕ) : Type 0 where
  pub low : k < n
  pub at_p : slice_index_or g (3 * k) 0 ≡ p
  pub at_x : slice_index_or g (3 * k + 1) 0 ≡ x
  pub at_y : slice_index_or g (3 * k + 2) 0 ≡ y

-- where it stands, or which of so many entries may be given to it
abbrev pub Found : List ℕ → ℕ → ℕ → Inputs → Place → Type 0
Found g n entries i (Gate k) = Stands g n i.p i.x i.y k
Found g n entries i (Entry e) = e < entries
Found g n entries i Nowhere = Unit {0}

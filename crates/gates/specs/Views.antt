-- What is seen of a circuit, and what is said of it. A circuit is sound, a view need not be.
use Rattle.std.specs.Prelude.{ℕ, List}
use Rattle.clauses.specs.Formulas.{Assignment}
use Rattle.gates.specs.declared.circuit.Circuit.{Circuit}
use Rattle.gates.specs.Words.{Goes, Meets, Sound}

pub record CircuitView : Type 0 where
  pub base : ℕ
  pub words : List ℕ
  pub count : ℕ
  pub claims : List ℕ
  pub claimed : ℕ

abbrev pub view : Circuit → CircuitView
view c = record { base = c.base; words = c.words.now; count = c.count; claims = c.claims.now; claimed = c.claimed }

-- what is said of words, of a view's
abbrev pub GoesV : CircuitView → Assignment → Type 0
GoesV c α = Goes c.base c.words c.count α

abbrev pub MeetsV : CircuitView → Assignment → Type 0
MeetsV c α = Meets c.claims c.claimed α

abbrev pub SoundV : CircuitView → Type 0
SoundV c = Sound c.base c.words c.count c.claims c.claimed

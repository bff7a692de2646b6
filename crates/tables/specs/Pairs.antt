-- Functions that make a literal for a pair of m things, in circuits that have grown from c.
use Rattle.std.specs.Prelude.{ℕ, ◌<◌, Option}
use Rattle.std.specs.Borrow.{MutBor}
use Rattle.descriptions.specs.declared.shapes.Pair.{Pair}
use Rattle.descriptions.specs.Pictures.{Relation}
use Rattle.clauses.specs.Formulas.{Assignment}
use Rattle.gates.specs.declared.circuit.Circuit.{Circuit}
use Rattle.gates.specs.Circuits.{GrewC, AddsC, GivesC, Came}

-- may be called
abbrev pub Callable : Circuit → ℕ → (MutBor Circuit → Pair → Type 0) → Type 0
Callable c m pre = (d : MutBor Circuit) (p : Pair) → GrewC c d.now → p.first < m → p.second < m → pre d p

-- add only gates
abbrev pub Grows : Circuit → ℕ → (MutBor Circuit → Pair → Option ℕ → MutBor Circuit → Type 0) → Type 0
Grows c m post = (d e : MutBor Circuit) (p : Pair) (r : Option ℕ) → GrewC c d.now → p.first < m → p.second < m → post d p r e → GrewC d.now e.now

-- add at most so many, for a literal of the pair's value
abbrev pub Makes : Circuit → ℕ → (MutBor Circuit → Pair → Option ℕ → MutBor Circuit → Type 0) → ℕ → (Assignment → Relation) → Type 0
Makes c m post cost value = (d e : MutBor Circuit) (p : Pair) (r : Option ℕ) → GrewC c d.now → p.first < m → p.second < m → post d p r e → AddsC d.now e.now cost × Came e.now r (λ l. GivesC e.now l (λ α. value α p.first p.second))

-- What is proved of circuits themselves.
use Rattle.std.specs.Prelude.{◌≡◌, ℕ, ◌+◌, ◌<◌, true}
use Rattle.clauses.specs.Formulas.{Assignment}
use Rattle.gates.specs.declared.circuit.Circuit.{Circuit}
use Rattle.gates.specs.Circuits.{GoesC}

-- each choice of the inputs, with variable 0 true, has an extension that goes with the gates
abbrev pub Extends : Type 0
Extends = (c : Circuit) (α : Assignment) → α 0 ≡ true → (β : Assignment) × GoesC c β × ((v : ℕ) → v < c.base → β v ≡ α v)

-- and on inputs and gates it is the only one
abbrev pub Determined : Type 0
Determined = (c : Circuit) (α β : Assignment) → GoesC c α → GoesC c β → ((v : ℕ) → v < c.base → α v ≡ β v) → (v : ℕ) → v < c.base + c.count → α v ≡ β v

-- What is proved of circuits of descriptions.
use Rattle.std.specs.Prelude.{◌≡◌, ℕ, ◌+◌, ◌*◌, ◌^◌, ◌≤◌, [], length}
use Rattle.descriptions.specs.Pictures.{Picture}
use Rattle.descriptions.specs.Meaning.{Sentence, Description, of}
use Rattle.descriptions.specs.Bytes.{write_s, depth}
use Rattle.descriptions.specs.Theorems.{Sized}
use Rattle.clauses.specs.Formulas.{Assignment, value, Models}
use Rattle.clauses.specs.Views.{StoreView}
use Rattle.gates.specs.declared.circuit.Circuit.{Circuit}
use Rattle.gates.specs.Circuits.{GoesC}
use Rattle.gates.specs.Views.{CircuitView}
use Rattle.gates.specs.Writing.{WrittenV}
use Rattle.encoder.specs.Encoding.{bits_of, Draws, drawn, size_s, MeansV, Means}

-- from a model of the clauses one reads a picture, and the description's literal is true where the picture is of it; the gates need not be sound
abbrev pub ModelsHavePictures : Type 0
ModelsHavePictures = (relations things : ℕ) (c : CircuitView) (t : StoreView) (l : ℕ) (d : Description) → MeansV relations things [] c l d.sentence → d.relations ≡ relations → WrittenV c t → (α : Assignment) → Models (t.formula) α → Sized d things (drawn (bits_of relations things) α) × (value α l ≡ of d things (drawn (bits_of relations things) α))

-- each picture is drawn by an assignment that goes with the gates
abbrev pub PicturesHaveModels : Type 0
PicturesHaveModels = (relations things : ℕ) (c : Circuit) (l : ℕ) (d : Description) → 1 + bits_of relations things ≤ c.base → Means relations things [] c l d.sentence → (p : Picture) → (α : Assignment) × GoesC c α × Draws (bits_of relations things) α p × (value α l ≡ of d things p)

-- gates are few
abbrev pub GatesAreFew : Type 0
GatesAreFew = (m x : ℕ) (c : Sentence) → m ≤ x → 1 ≤ x → size_s m c ≤ length (write_s c) * (x ^ (3 + depth c))

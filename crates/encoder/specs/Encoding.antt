-- What the circuit of an expression or a sentence that is written at a place says.
use Rattle.std.specs.Prelude.{◌≡◌, ℕ, ◌+◌, ◌*◌, ◌<◌, ◌≤◌, false, List, [], ◌∷◌, ◌++◌, map, length, drop, Some, None, Option, slice_index_or}
use Rattle.std.specs.List.{range_with_len}
use Rattle.descriptions.specs.Pictures.{Picture, every}
use Rattle.descriptions.specs.Meaning.{Expression, named, thing, identity, empty, unary, binary, Sentence, within, nonempty, negation, both, for_every, Description, value, holds}
use Rattle.descriptions.specs.Bytes.{write_e, write_s, fine_e, fine_s, Reads}
use Rattle.descriptions.specs.Reading.{Absent, Read, write_pair, fine_pair}
use Rattle.descriptions.specs.declared.extents.Written.{Written}
use Rattle.descriptions.specs.declared.shapes.Shape.{Shape}
use Rattle.evaluator.specs.declared.speaking.Environment.{Environment}
use Rattle.evaluator.specs.Speaking.{seen}
use Rattle.clauses.specs.Formulas as literal
use Rattle.gates.specs.declared.circuit.Circuit.{Circuit}
use Rattle.gates.specs.Circuits.{GoesC}
use Rattle.gates.specs.Views.{CircuitView, view, GoesV}
use Rattle.tables.specs.Tables.{shown, FilledC, combine_cost, transform_cost}

-- how many bits a picture has
abbrev pub bits_of : ℕ → ℕ → ℕ
bits_of relations things = relations * (things * things)

-- the variable of the first pair of relation r, if there is the relation
abbrev pub FirstAt : ℕ → ℕ → ℕ → Option ℕ → Type 0
FirstAt relations things r None = relations ≤ r
FirstAt relations things r (Some first) = (r < relations) × (first ≡ 1 + r * (things * things)) × (first < 65536)

-- an assignment draws a picture: after the variable that is true, the variables are the picture's bits
abbrev pub Draws : ℕ → literal.Assignment → Picture → Type 0
Draws n α p = (k : ℕ) → k < n → α (1 + k) ≡ slice_index_or p k false

-- the picture that an assignment draws
unfoldable pub drawn : ℕ → literal.Assignment → Picture
drawn n α = map (λ k. α (1 + k)) (range_with_len 0 n)

-- at most so many gates
abbrev pub size_e : ℕ → Expression → ℕ
size_e m (named r) = 0
size_e m (thing x) = 0
size_e m identity = 0
size_e m empty = 0
size_e m (unary o a) = size_e m a + transform_cost o m
size_e m (binary o a b) = size_e m a + size_e m b + combine_cost o m

abbrev pub size_s : ℕ → Sentence → ℕ
size_s m (within a b) = size_e m a + size_e m b + m * m
size_s m (nonempty a) = size_e m a + m * m
size_s m (negation c) = size_s m c
size_s m (both c d) = size_s m c + size_s m d + 1
size_s m (for_every c) = m * (size_s m c + 1)

-- the words are too few for so many gates more
abbrev pub TooFew : Circuit → Circuit → ℕ → Type 0
TooFew c d size = length d.words.now < 3 * (c.count + size) + 3

-- the table shows the relation that the expression stands for in the picture that the assignment draws
pub record ShowsE (relations things : ℕ) (v : List ℕ) (d : Circuit) (t : List ℕ) (e : Expression) : Type 0 where
  pub filled : FilledC d things t
  pub is : (α : literal.Assignment) → GoesC d α → (p : Picture) → Draws (bits_of relations things) α p → (i j : ℕ) → i < things → j < things → shown α things t i j ≡ value things p v e i j

-- the literal is true where the sentence holds of that picture
pub record MeansV (relations things : ℕ) (v : List ℕ) (d : CircuitView) (l : ℕ) (s : Sentence) : Type 0 where
  pub low : l < 2 * (d.base + d.count)
  pub is : (α : literal.Assignment) → GoesV d α → (p : Picture) → Draws (bits_of relations things) α p → literal.value α l ≡ holds things p v s

abbrev pub Means : ℕ → ℕ → List ℕ → Circuit → ℕ → Sentence → Type 0
Means relations things v d l s = MeansV relations things v (view d) l s

-- with so many gates more at most
pub record EncodesE (relations things : ℕ) (v : List ℕ) (c d : Circuit) (t : List ℕ) (e : Expression) : Type 0 where
  pub few : d.count ≤ c.count + size_e things e
  pub shows : ShowsE relations things v d t e

pub record EncodesPair (relations things : ℕ) (v : List ℕ) (c d : Circuit) (t : List ℕ × List ℕ) (e : Expression × Expression) : Type 0 where
  pub few : d.count ≤ c.count + (size_e things e.0 + size_e things e.1)
  pub shows_one : ShowsE relations things v d t.0 e.0
  pub shows_other : ShowsE relations things v d t.1 e.1

pub record EncodesS (relations things : ℕ) (v : List ℕ) (c d : Circuit) (l : ℕ) (s : Sentence) : Type 0 where
  pub few : d.count ≤ c.count + size_s things s
  pub means : Means relations things v d l s

-- what is read at a place
abbrev pub TableSays : Shape → Environment → List ℕ → ℕ → Circuit → Circuit → Option (Written (List ℕ)) → Type 0
TableSays x v s at c d r = Read write_e (fine_e x.relations v.count) s at (λ t. t.end) (λ e t. EncodesE x.relations x.size.things (seen v) c d t.value e) (λ e. TooFew c d (size_e x.size.things e)) r

abbrev pub TablesSay : Shape → Environment → List ℕ → ℕ → Circuit → Circuit → Option (Written (List ℕ × List ℕ)) → Type 0
TablesSay x v s at c d r = Read (write_pair write_e) (fine_pair (fine_e x.relations v.count)) s at (λ t. t.end) (λ e t. EncodesPair x.relations x.size.things (seen v) c d t.value e) (λ e. TooFew c d (size_e x.size.things e.0 + size_e x.size.things e.1)) r

abbrev pub TruthSays : Shape → Environment → List ℕ → ℕ → Circuit → Circuit → Option (Written ℕ) → Type 0
TruthSays x v s at c d r = Read write_s (fine_s x.relations v.count) s at (λ t. t.end) (λ e t. EncodesS x.relations x.size.things (seen v) c d t.value e) (λ e. TooFew c d (size_s x.size.things e)) r

-- the literal is true where the sentence holds of the first k things, each spoken of in turn
pub record EncodesEvery (relations things : ℕ) (v : List ℕ) (c d : Circuit) (k l : ℕ) (s : Sentence) : Type 0 where
  pub few : d.count ≤ c.count + k * (size_s things s + 1)
  pub low : l < 2 * (d.base + d.count)
  pub is : (α : literal.Assignment) → GoesC d α → (p : Picture) → Draws (bits_of relations things) α p → literal.value α l ≡ every k (λ i. holds things p (i ∷ v) s)

abbrev pub EverySays : Shape → Environment → List ℕ → ℕ → Circuit → Circuit → ℕ → ℕ → Type 0
EverySays x v s at c d k l = (e : Sentence) (t : List ℕ) → drop at s ≡ write_s e ++ t → EncodesEvery x.relations x.size.things (seen v) c d k l e

abbrev pub EverySaysIf : Shape → Environment → List ℕ → ℕ → Circuit → Circuit → Option ℕ → Type 0
EverySaysIf x v s at c d None = Absent write_s (fine_s x.relations (v.count + 1)) s at (λ e. TooFew c d (x.size.things * (size_s x.size.things e + 1)))
EverySaysIf x v s at c d (Some l) = EverySays x v s at c d x.size.things l

-- the circuit of the description that the bytes are; or the words were too few for it
abbrev pub Encoded : Shape → List ℕ → Circuit → Circuit → Option ℕ → Type 0
Encoded x s c d None = (e : Description) → Reads s e → e.relations ≡ x.relations → TooFew c d (size_s x.size.things e.sentence)
Encoded x s c d (Some l) = (e : Description) → Reads s e → e.relations ≡ x.relations → EncodesS x.relations x.size.things [] c d l e.sentence

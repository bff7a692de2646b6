-- What an expression or a sentence that is written at a place says of a picture.
use Rattle.std.specs.Prelude.{◌≡◌, ℕ, ◌+◌, Bool, List, ◌∷◌, ◌++◌, drop, Some, None, Option, ◌≢◌}
use Rattle.descriptions.specs.declared.extents.Written.{Written}
use Rattle.descriptions.specs.Pictures.{every}
use Rattle.descriptions.specs.Meaning.{Expression, Sentence, Description, value, holds, of}
use Rattle.descriptions.specs.Bytes.{write_e, write_s, fine_e, fine_s, Reads}
use Rattle.descriptions.specs.Reading.{Absent, Read, write_pair, fine_pair}
use Rattle.matrices.specs.Words.{Shows}
use Rattle.evaluator.specs.declared.packing.Packed.{Packed}
use Rattle.evaluator.specs.declared.speaking.Environment.{Environment}
use Rattle.evaluator.specs.Packing.{unpacked}
use Rattle.evaluator.specs.Speaking.{seen}

-- the word shows the relation that the expression stands for in the picture
abbrev pub ShowsE : Packed → List ℕ → Expression → ℕ → Type 0
ShowsE p v e w = Shows p.shape.size.things w (value p.shape.size.things (unpacked p) v e)

abbrev pub ValueSays : Packed → Environment → List ℕ → ℕ → Option (Written ℕ) → Type 0
ValueSays p v s at r = Read write_e (fine_e p.shape.relations v.count) s at (λ x. x.end) (λ e x. ShowsE p (seen v) e x.value) (λ e. ⊥) r

abbrev pub ValuesSay : Packed → Environment → List ℕ → ℕ → Option (Written (ℕ × ℕ)) → Type 0
ValuesSay p v s at r = Read (write_pair write_e) (fine_pair (fine_e p.shape.relations v.count)) s at (λ x. x.end) (λ e x. ShowsE p (seen v) e.0 x.value.0 × ShowsE p (seen v) e.1 x.value.1) (λ e. ⊥) r

-- the truth is whether the sentence holds there
abbrev pub TruthSays : Packed → Environment → List ℕ → ℕ → Option (Written Bool) → Type 0
TruthSays p v s at r = Read write_s (fine_s p.shape.relations v.count) s at (λ x. x.end) (λ c x. x.value ≡ holds p.shape.size.things (unpacked p) (seen v) c) (λ c. ⊥) r

-- whether it holds of the first k things, each spoken of in turn
abbrev pub EverySays : Packed → Environment → List ℕ → ℕ → ℕ → Bool → Type 0
EverySays p v s at k b = (c : Sentence) (t : List ℕ) → drop at s ≡ write_s c ++ t → b ≡ every k (λ i. holds p.shape.size.things (unpacked p) (i ∷ seen v) c)

abbrev pub EverySaysIf : Packed → Environment → List ℕ → ℕ → Option Bool → Type 0
EverySaysIf p v s at None = Absent write_s (fine_s p.shape.relations (v.count + 1)) s at (λ c. ⊥)
EverySaysIf p v s at (Some b) = EverySays p v s at p.shape.size.things b

-- whether the picture is of the description that the bytes are, if they are one about as many relations
pub record Judged (p : Packed) (s : List ℕ) (b : Bool) : Type 0 where
  pub description : Description
  pub reads : Reads s description
  pub relations : description.relations ≡ p.shape.relations
  pub is_of : b ≡ of description p.shape.size.things (unpacked p)

abbrev pub JudgedIf : Packed → List ℕ → Option Bool → Type 0
JudgedIf p s None = (d : Description) → Reads s d → d.relations ≢ p.shape.relations
JudgedIf p s (Some b) = Judged p s b

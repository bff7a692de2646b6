-- From the sentence to the description; pictures and the assignments that draw them.
use Rattle.std.proofs.Common.{◌≡◌, ℕ, ◌+◌, ◌-◌, ◌*◌, true, false, cond, eqb, List, [], ◌++◌, length, get_or, drop, Some, None, sym, refl, ap, ◌∙◌, subst, arith}
use Rattle.std.proofs.lemmas.List.FromFn.{length-map-range_with_len, get_or-map-range_with_len}
use Rattle.std.proofs.lemmas.List.{append-nil}
use Rattle.std.proofs.lemmas.Bool.{ne_eqb}
use Rattle.descriptions.specs.Pictures.{Picture}
use Rattle.descriptions.specs.Meaning.{Description}
use Rattle.descriptions.specs.Bytes.{write_s, fine_s, Reads}
use Rattle.descriptions.specs.Reading.{Stands, Absent}
use Rattle.descriptions.proofs.Unique.{unique_s}
use Rattle.descriptions.proofs.Parts.{stands_one}
use Rattle.evaluator.specs.declared.speaking.Environment.{Environment}
use Rattle.descriptions.specs.declared.shapes.Shape.{Shape}
use Rattle.evaluator.specs.Speaking.{seen, Silent}
use Rattle.clauses.specs.Formulas.{Assignment}
use Rattle.gates.specs.declared.circuit.Circuit.{Circuit}
use Rattle.gates.proofs.Runs.{extends}
use Rattle.encoder.specs.Encoding.{bits_of, Draws, drawn, size_s, TooFew, EncodesS, Encoded}
use Rattle.encoder.specs.Theorems.{ModelsHavePictures, PicturesHaveModels}

-- the bytes after the first are the sentence's
after_first : (s : List ℕ) (d : Description) → Reads s d → drop 1 s ≡ write_s d.sentence ++ []
after_first s d r = ap (λ (z : List ℕ). drop 1 z) r.written ∙ sym (append-nil (write_s d.sentence))

module _ (x : Shape) (s : List ℕ) (c d : Circuit) (v : Environment) (silent : Silent v) where
  pub encoded_none : Absent write_s (fine_s x.relations v.count) s 1 (λ e. TooFew c d (size_s x.size.things e)) → Encoded x s c d None
  encoded_none f e r q =
      f e.sentence [] (subst (λ (z : ℕ). fine_s x.relations z e.sentence ≡ true) (sym silent.count) (subst (λ (z : ℕ). fine_s z 0 e.sentence ≡ true) q r.fine)) (after_first s e r)

  pub encoded_some : (end l : ℕ) → Stands write_s (fine_s x.relations v.count) s 1 end (λ e. EncodesS x.relations x.size.things (seen v) c d l e) → Encoded x s c d (Some l)
  encoded_some end l f e r q =
      subst (λ (w : List ℕ). EncodesS x.relations x.size.things w c d l e.sentence) silent.none (stands_one write_s (fine_s x.relations v.count) s 1 end _ unique_s f e.sentence [] (after_first s e r))

-- the picture that an assignment draws
pub drawn_length : (n : ℕ) (α : Assignment) → length (drawn n α) ≡ n
unfolding drawn
drawn_length n α = length-map-range_with_len (λ k. α (1 + k)) 0 n

pub draws_drawn : (n : ℕ) (α : Assignment) → Draws n α (drawn n α)
unfolding drawn
draws_drawn n α k h = sym (get_or-map-range_with_len (λ i. α (1 + i)) 0 n k k false h (omega arith))

pub models_have_pictures : ModelsHavePictures
models_have_pictures relations things c t l d means e w α m =
    (drawn_length (bits_of relations things) α ∙ ap (λ (z : ℕ). z * (things * things)) (sym e), means.is α (w.goes α m) (drawn (bits_of relations things) α) (draws_drawn (bits_of relations things) α))

-- an assignment of the inputs that draws a picture
inputs : Picture → Assignment
inputs p v = cond (eqb v 0) true (get_or p (v - 1) false)

inputs_at : (p : Picture) (k : ℕ) → inputs p (1 + k) ≡ get_or p k false
unfolding inputs
inputs_at p k = let e : 1 + k - 1 ≡ k = omega arith in rw (ne_eqb (1 + k) 0 (omega arith)) (ap (λ (y : ℕ). get_or p y false) e)

inputs_top : (p : Picture) → inputs p 0 ≡ true
unfolding inputs
inputs_top p = refl

pub pictures_have_models : PicturesHaveModels
pictures_have_models relations things c l d room means p =
    let q = extends c (inputs p) (inputs_top p) in
    let draws : Draws (bits_of relations things) q.0 p = λ k h. q.2 (1 + k) (omega arith) ∙ inputs_at p k in
    (q.0, q.1, draws, means.is q.0 q.1 p draws)

-- From a sentence that fills the bytes to the description that they are.
use Rattle.std.proofs.Common.{◌≡◌, ℕ, ◌≤◌, Bool, List, ◌∷◌, length, drop, eqb, None, inl, inr, sym, ap, ◌∙◌, subst}
use Rattle.std.specs.Bool.{then_some}
use Rattle.std.proofs.lemmas.Bool.Decides.{eqb_tells}
use Rattle.descriptions.specs.Meaning.{holds}
use Rattle.descriptions.specs.Bytes.{write_s, fine_s}
use Rattle.descriptions.specs.Reading.{Stands, Absent}
use Rattle.descriptions.proofs.Sentences.{no_sentence_there, not_whole, whole}
use Rattle.evaluator.specs.declared.packing.Packed.{Packed}
use Rattle.evaluator.specs.declared.speaking.Environment.{Environment}
use Rattle.evaluator.specs.Packing.{unpacked}
use Rattle.evaluator.specs.Speaking.{seen, Silent}
use Rattle.evaluator.specs.Evaluating.{Judged, JudgedIf}

module _ (p : Packed) (s : List ℕ) (n : ℕ) (v : Environment) (first : s ≡ n ∷ drop 1 s) (silent : Silent v) (same : n ≡ p.shape.relations) where
  -- the scope, as the bytes give it
  abbrev Scoped : (ℕ → ℕ → Type 0) → Type 0
  Scoped P = P p.shape.relations v.count → P n 0

  scoped : (P : ℕ → ℕ → Type 0) → Scoped P
  scoped P x = subst (λ (k : ℕ). P n k) silent.count (subst (λ (k : ℕ). P k v.count) (sym same) x)

  pub no_description : Absent write_s (fine_s p.shape.relations v.count) s 1 (λ c. ⊥) → JudgedIf p s None
  no_description f d r e = no_sentence_there s n first (λ c. ⊥) (λ c x. x) (scoped (λ a b. Absent write_s (fine_s a b) s 1 (λ c. ⊥)) f) d r

  module _ (end : ℕ) (b : Bool) (f : Stands write_s (fine_s p.shape.relations v.count) s 1 end (λ c. b ≡ holds p.shape.size.things (unpacked p) (seen v) c)) where
    there : Stands write_s (fine_s n 0) s 1 end (λ c. b ≡ holds p.shape.size.things (unpacked p) (seen v) c)
    there = scoped (λ a k. Stands write_s (fine_s a k) s 1 end (λ c. b ≡ holds p.shape.size.things (unpacked p) (seen v) c)) f

    more_bytes : (end ≡ length s → ⊥) → JudgedIf p s None
    more_bytes ne d r e = not_whole s n first end _ there ne d r

    judged : 1 ≤ n → n ≤ 8 → length s ≤ 512 → end ≡ length s → Judged p s b
    judged some few short q =
        record { description = record { relations = n; sentence = there.part }; reads = whole s n first end _ some few short there q; relations = same; is_of = there.says ∙ ap (λ (l : List ℕ). holds p.shape.size.things (unpacked p) l there.part) silent.none }

    -- the whole description is read, or more bytes follow
    pub answered : 1 ≤ n → n ≤ 8 → length s ≤ 512 → JudgedIf p s (then_some (eqb end (length s)) b)
    answered some few short =
        elim (eqb_tells end (length s)) [
          | inl q ↦ subst (λ (x : Bool). JudgedIf p s (then_some x b)) (sym q.0) (judged some few short q.1)
          | inr q ↦ subst (λ (x : Bool). JudgedIf p s (then_some x b)) (sym q.0) (more_bytes q.1)
        ]

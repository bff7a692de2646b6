-- The truth of a sentence, from its parts.
use Rattle.std.proofs.Common.{◌≡◌, ℕ, ◌+◌, ◌<◌, ◌≤◌, Bool, true, false, not, ◌&&◌, ◌||◌, List, ◌∷◌, ◌++◌, drop, Some, None, Option, sym, refl, ap, ◌∙◌}
use Rattle.descriptions.specs.Pictures.{any, every}
use Rattle.descriptions.specs.Meaning.{Expression, Sentence, within, nonempty, holds}
use Rattle.descriptions.specs.Bytes.{write_s, fine_s}
use Rattle.descriptions.specs.Reading.{Stands, Absent}
use Rattle.descriptions.proofs.Quantifiers.{any_cong, every_cong, every_at, every_more}
use Rattle.descriptions.proofs.Unique.{unique_s}
use Rattle.descriptions.proofs.Parts.{stands_one, operator_stands, operator_absent, pair_stands, pair_absent, pair_half}
use Rattle.descriptions.proofs.Operators.{no_sentence, too_deep, begins, within_operator, nonempty_operator, negation_operator, both_operator, for_every_operator}
use Rattle.descriptions.specs.declared.extents.Written.{Written}
use Rattle.descriptions.specs.declared.heads.SentenceHead.{SentenceHead}
use Rattle.descriptions.specs.declared.heads.SentenceHead.TheVariants.{Within, Nonempty, Not, Both, ForEvery}
use Rattle.descriptions.specs.Heads.{head_of_s, HeadS}
use Rattle.evaluator.specs.declared.evaluating.Reader.{Reader}
use Rattle.evaluator.proofs.Values.{ValueAt, ValuesAt}
use Rattle.matrices.specs.Words.{matrix}
use Rattle.evaluator.specs.declared.packing.Packed.{Packed}
use Rattle.evaluator.specs.declared.speaking.Environment.{Environment}
use Rattle.evaluator.specs.Packing.{unpacked}
use Rattle.evaluator.specs.Speaking.{seen, Extended}
use Rattle.evaluator.specs.Evaluating.{ShowsE, TruthSays, EverySays}

module _ (p : Packed) where
  pub within_holds : (v : List ℕ) (x y : ℕ) (b : Bool) → b ≡ every p.shape.size.things (λ i. every p.shape.size.things (λ j. not (matrix p.shape.size.things x i j) || matrix p.shape.size.things y i j)) → (a : Expression × Expression) → ShowsE p v a.0 x × ShowsE p v a.1 y → b ≡ holds p.shape.size.things (unpacked p) v (within a.0 a.1)
  within_holds v x y b q a s = q ∙ every_cong p.shape.size.things _ _ (λ i hi. every_cong p.shape.size.things _ _ (λ j hj. let f = s.0 i j hi hj in let g = s.1 i j hi hj in rw (f, g) refl))

  pub nonempty_holds : (v : List ℕ) (x : ℕ) (b : Bool) → b ≡ any p.shape.size.things (λ i. any p.shape.size.things (λ j. matrix p.shape.size.things x i j)) → (a : Expression) → ShowsE p v a x → b ≡ holds p.shape.size.things (unpacked p) v (nonempty a)
  nonempty_holds v x b q a s = q ∙ any_cong p.shape.size.things _ _ (λ i hi. any_cong p.shape.size.things _ _ (λ j hj. s i j hi hj))

  -- what the sentence says of the thing that is spoken of now
  pub holds_now : (v v' : Environment) (s : List ℕ) (at k end : ℕ) (b : Bool) → Extended v k v' → Stands write_s (fine_s p.shape.relations v'.count) s at end (λ c. b ≡ holds p.shape.size.things (unpacked p) (seen v') c) → (c : Sentence) (t : List ℕ) → drop at s ≡ write_s c ++ t → b ≡ holds p.shape.size.things (unpacked p) (k ∷ seen v) c
  holds_now v v' s at k end b e f c t q = stands_one write_s (fine_s p.shape.relations v'.count) s at end _ unique_s f c t q ∙ ap (λ (l : List ℕ). holds p.shape.size.things (unpacked p) l c) e.newest

-- what is read at a place, from the head that stands there and from what its operands are read as
module _ (r : Reader) (at : ℕ) where
  abbrev p : Packed
  p = r.picture.now

  abbrev s : List ℕ
  s = r.bytes.now

  -- the sentence that is read at a place
  abbrev pub TruthAt : ℕ → Option (Written Bool) → Type 0
  TruthAt i x = TruthSays p r.spoken s i x

  abbrev holds_here : Sentence → Bool
  holds_here c = holds p.shape.size.things (unpacked p) (seen r.spoken) c

  pub no_truth : head_of_s (drop at s) ≡ None → TruthAt at None
  no_truth q = no_sentence _ _ s at _ q

  module _ (h : SentenceHead) (read : HeadS s at (Some h)) where
    pub no_within : h ≡ Within → ValuesAt r at (at + 1) None → TruthAt at None
    no_within e f = operator_absent _ _ _ _ _ s at (begins s at h Within e read) (within_operator _ _) _ _ (λ a n. n) f

    pub within_truth : (x : Written (ℕ × ℕ)) (b : Bool) → h ≡ Within → b ≡ every p.shape.size.things (λ i. every p.shape.size.things (λ j. not (matrix p.shape.size.things x.value.0 i j) || matrix p.shape.size.things x.value.1 i j)) → ValuesAt r at (at + 1) (Some x) → TruthAt at (Some (record { value = b; end = x.end }))
    within_truth x b e q f = operator_stands _ _ _ _ _ s at (begins s at h Within e read) (within_operator _ _) x.end _ _ (within_holds p (seen r.spoken) x.value.0 x.value.1 b q) f

    pub no_nonempty : h ≡ Nonempty → ValueAt r at (at + 1) None → TruthAt at None
    no_nonempty e f = operator_absent _ _ _ _ _ s at (begins s at h Nonempty e read) (nonempty_operator _ _) _ _ (λ a n. n) f

    pub nonempty_truth : (x : Written ℕ) (b : Bool) → h ≡ Nonempty → b ≡ any p.shape.size.things (λ i. any p.shape.size.things (λ j. matrix p.shape.size.things x.value i j)) → ValueAt r at (at + 1) (Some x) → TruthAt at (Some (record { value = b; end = x.end }))
    nonempty_truth x b e q f = operator_stands _ _ _ _ _ s at (begins s at h Nonempty e read) (nonempty_operator _ _) x.end _ _ (nonempty_holds p (seen r.spoken) x.value b q) f

    pub no_not : h ≡ Not → TruthAt (at + 1) None → TruthAt at None
    no_not e f = operator_absent _ _ _ _ _ s at (begins s at h Not e read) (negation_operator _ _) _ _ (λ a n. n) f

    pub not_truth : (x : Written Bool) → h ≡ Not → TruthAt (at + 1) (Some x) → TruthAt at (Some (record { value = not x.value; end = x.end }))
    not_truth x e f = operator_stands _ _ _ _ _ s at (begins s at h Not e read) (negation_operator _ _) x.end _ _ (λ a q. ap not q) f

    pub no_first : h ≡ Both → TruthAt (at + 1) None → TruthAt at None
    no_first e f = operator_absent _ _ _ _ _ s at (begins s at h Both e read) (both_operator _ _) _ _ (λ a n. n) (pair_absent _ _ s (at + 1) (λ x. ⊥) (λ x. ⊥) (λ a b n. n) f)

    pub no_second : (one : Written Bool) → h ≡ Both → TruthAt (at + 1) (Some one) → TruthAt one.end None → TruthAt at None
    no_second one e f g = operator_absent _ _ _ _ _ s at (begins s at h Both e read) (both_operator _ _) _ _ (λ a n. n) (pair_half _ _ s (at + 1) unique_s one.end _ (λ x. ⊥) (λ x. ⊥) (λ a b q n. n) f g)

    pub both_truth : (one other : Written Bool) → h ≡ Both → TruthAt (at + 1) (Some one) → TruthAt one.end (Some other) → TruthAt at (Some (record { value = one.value && other.value; end = other.end }))
    both_truth one other e f g =
        operator_stands _ _ _ _ _ s at (begins s at h Both e read) (both_operator _ _) other.end _ _ (λ a q. q)
        (pair_stands _ _ s (at + 1) one.end other.end _ _ _ (λ a b q t. let k : one.value ≡ holds_here a = q in let l : other.value ≡ holds_here b = t in rw (k, l) refl) f g)

    pub too_deep_truth : h ≡ ForEvery → 4 ≤ r.spoken.count → TruthAt at None
    too_deep_truth e le = too_deep _ _ s at h _ e read le

    module _ (e : h ≡ ForEvery) (lt : r.spoken.count < 4) where
      pub no_for_every : Absent write_s (fine_s p.shape.relations (r.spoken.count + 1)) s (at + 1) (λ c. ⊥) → TruthAt at None
      no_for_every f = operator_absent _ _ _ _ _ s at (begins s at h ForEvery e read) (for_every_operator _ _ lt) _ _ (λ a n. n) f

      pub for_every_truth : (end : ℕ) (b : Bool) (P : Sentence → Type 0) → Stands write_s (fine_s p.shape.relations (r.spoken.count + 1)) s (at + 1) end P → EverySays p r.spoken s (at + 1) p.shape.size.things b → TruthAt at (Some (record { value = b; end = end }))
      for_every_truth end b P body f =
          operator_stands _ _ _ _ _ s at (begins s at h ForEvery e read) (for_every_operator _ _ lt) end _ _ (λ a q. q)
          (record { part = body.part; is_fine = body.is_fine; written = body.written; further = body.further; inside = body.inside; says = f body.part _ body.written })

  -- one thing more was spoken of
  module _ (v : Environment) (k : ℕ) (x : Written Bool) (new : Extended r.spoken k v) (f : TruthSays p v s at (Some x)) where
    pub false_of_one : k < p.shape.size.things → x.value ≡ false → EverySays p r.spoken s at p.shape.size.things false
    false_of_one lt q c t e = sym (every_at p.shape.size.things k (λ i. holds p.shape.size.things (unpacked p) (i ∷ seen r.spoken) c) lt (sym (holds_now p r.spoken v s at k x.end x.value new f c t e) ∙ q))

    pub true_of_more : x.value ≡ true → EverySays p r.spoken s at k true → EverySays p r.spoken s at (k + 1) true
    true_of_more q so c t e = sym (every_more k (λ i. holds p.shape.size.things (unpacked p) (i ∷ seen r.spoken) c) (sym (so c t e)) (sym (holds_now p r.spoken v s at k x.end x.value new f c t e) ∙ q))

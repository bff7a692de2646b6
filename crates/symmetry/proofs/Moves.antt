-- What things are called is nothing: a sentence is as true of a moved picture as of the picture.
use Rattle.std.proofs.Common.{◌≡◌, ℕ, zero, suc, ◌+◌, ◌<◌, true, not, ◌&&◌, ◌||◌, eqb, ltb, List, [], ◌∷◌, map, length, sym, refl, ap, ◌∙◌, ap₂, add-one, arith}
use Rattle.std.proofs.lemmas.Bool.{and_parts, lt-ltb, ltb-true, eq-eqb, eqb-true}
use Rattle.descriptions.specs.declared.Unary.{Unary}
use Rattle.descriptions.specs.declared.Unary.TheVariants.{Converse, Closure, Domain}
use Rattle.descriptions.specs.declared.Binary.{Binary}
use Rattle.descriptions.specs.declared.Binary.TheVariants.{Union, Intersection, Difference, Composition}
use Rattle.descriptions.specs.Pictures.{Relation, Picture, compose, reach}
use Rattle.descriptions.specs.Meaning.{Expression, named, thing, identity, empty, unary, binary, Sentence, within, nonempty, negation, both, for_every, transform, combine, spoken, value, holds}
use Rattle.descriptions.specs.Bytes.{fine_e, fine_s}
use Rattle.descriptions.specs.Theorems.{Permutes, Moved, NamesAreNothing}
use Rattle.descriptions.proofs.Quantifiers.{same_truth}
use Rattle.symmetry.proofs.Permutations.{any_permuted, every_permuted}

module _ (m : ℕ) (f : ℕ → ℕ) (permutes : Permutes m f) where
  -- s is r with each thing i called f i
  abbrev Renamed : Relation → Relation → Type 0
  Renamed r s = (i j : ℕ) → i < m → j < m → s (f i) (f j) ≡ r i j

  equality_moved : (i j : ℕ) → i < m → j < m → eqb (f i) (f j) ≡ eqb i j
  equality_moved i j hi hj = same_truth _ _ (λ e. eq-eqb i j (permutes.1 i j hi hj (eqb-true _ _ e))) (λ e. eq-eqb (f i) (f j) (ap f (eqb-true i j e)))

  compose_moved : (r s r' s' : Relation) → Renamed r r' → Renamed s s' → Renamed (compose m r s) (compose m r' s')
  compose_moved r s r' s' p q i j hi hj = any_permuted m f permutes (λ k. r' (f i) k && s' k (f j)) (λ k. r i k && s k j) (λ k l. ap₂ ◌&&◌ (p i k hi l) (q k j l hj))

  reach_moved : (k : ℕ) (r r' : Relation) → Renamed r r' → Renamed (reach m k r) (reach m k r')
  reach_moved zero r r' p i j hi hj = p i j hi hj
  reach_moved (suc k) r r' p i j hi hj = ap₂ ◌||◌ (p i j hi hj) (compose_moved r (reach m k r) r' (reach m k r') p (reach_moved k r r' p) i j hi hj)

  transform_moved : (o : Unary) (r r' : Relation) → Renamed r r' → Renamed (transform o m r) (transform o m r')
  transform_moved Converse r r' p i j hi hj = p j i hj hi
  transform_moved Closure r r' p i j hi hj = reach_moved m r r' p i j hi hj
  transform_moved Domain r r' p i j hi hj = ap₂ ◌&&◌ (equality_moved i j hi hj) (any_permuted m f permutes (λ k. r' (f i) k) (λ k. r i k) (λ k l. p i k hi l))

  combine_moved : (o : Binary) (r s r' s' : Relation) → Renamed r r' → Renamed s s' → Renamed (combine o m r s) (combine o m r' s')
  combine_moved Union r s r' s' p q i j hi hj = ap₂ ◌||◌ (p i j hi hj) (q i j hi hj)
  combine_moved Intersection r s r' s' p q i j hi hj = ap₂ ◌&&◌ (p i j hi hj) (q i j hi hj)
  combine_moved Difference r s r' s' p q i j hi hj = ap₂ ◌&&◌ (p i j hi hj) (ap not (q i j hi hj))
  combine_moved Composition r s r' s' p q i j hi hj = compose_moved r s r' s' p q i j hi hj

  spoken_moved : (v : List ℕ) (x : ℕ) → x < length v → spoken (map f v) x ≡ f (spoken v x)
  spoken_moved [] x h = absurd (omega arith)
  spoken_moved (i ∷ v) zero h = refl
  spoken_moved (i ∷ v) (suc x) h = spoken_moved v x (omega arith)

  -- the things spoken of are among the m
  abbrev Present : List ℕ → Type 0
  Present v = (x : ℕ) → x < length v → spoken v x < m

  present_more : (v : List ℕ) (i : ℕ) → i < m → Present v → Present (i ∷ v)
  present_more v i h present zero l = h
  present_more v i h present (suc x) l = present x (omega arith)

  module _ (n : ℕ) (p q : Picture) (moved : Moved n m f p q) where
    value_moved : (e : Expression) (v : List ℕ) → fine_e n (length v) e ≡ true → Present v → Renamed (value m p v e) (value m q (map f v) e)
    value_moved (named r) v fine present i j hi hj = moved r i j (ltb-true r n fine) hi hj
    value_moved (thing x) v fine present i j hi hj =
        let l = ltb-true x (length v) fine in
        let t = spoken_moved v x l in
        rw t (ap₂ ◌&&◌ (equality_moved i (spoken v x) hi (present x l)) (equality_moved j (spoken v x) hj (present x l)))
    value_moved identity v fine present i j hi hj = ap₂ ◌&&◌ (lt-ltb (f i) m (permutes.0 i hi) ∙ sym (lt-ltb i m hi)) (equality_moved i j hi hj)
    value_moved empty v fine present i j hi hj = refl
    value_moved (unary o a) v fine present i j hi hj = transform_moved o (value m p v a) (value m q (map f v) a) (value_moved a v fine present) i j hi hj
    value_moved (binary o a b) v fine present i j hi hj =
        let parts = and_parts (fine_e n (length v) a) (fine_e n (length v) b) fine in
        combine_moved o (value m p v a) (value m p v b) (value m q (map f v) a) (value m q (map f v) b) (value_moved a v parts.0 present) (value_moved b v parts.1 present) i j hi hj

    holds_moved : (c : Sentence) (v : List ℕ) → fine_s n (length v) c ≡ true → Present v → holds m q (map f v) c ≡ holds m p v c
    holds_moved (within a b) v fine present =
        let parts = and_parts (fine_e n (length v) a) (fine_e n (length v) b) fine in
        every_permuted m f permutes _ _ (λ i hi. every_permuted m f permutes _ _ (λ j hj. ap₂ ◌||◌ (ap not (value_moved a v parts.0 present i j hi hj)) (value_moved b v parts.1 present i j hi hj)))
    holds_moved (nonempty a) v fine present = any_permuted m f permutes _ _ (λ i hi. any_permuted m f permutes _ _ (λ j hj. value_moved a v fine present i j hi hj))
    holds_moved (negation c) v fine present = ap not (holds_moved c v fine present)
    holds_moved (both c d) v fine present =
        let parts = and_parts (fine_s n (length v) c) (fine_s n (length v) d) fine in
        ap₂ ◌&&◌ (holds_moved c v parts.0 present) (holds_moved d v parts.1 present)
    holds_moved (for_every c) v fine present =
        let inside = (and_parts (ltb (length v) 4) (fine_s n (length v + 1) c) fine).1 in
        every_permuted m f permutes _ _ (λ i hi. holds_moved c (i ∷ v) (rw add-one at inside) (present_more v i hi present))

pub names_are_nothing : NamesAreNothing
names_are_nothing s d m f p q reads sized-p sized-q permutes moved = sym (holds_moved m f permutes d.relations p q moved d.sentence [] reads.fine (λ x h. absurd (omega arith)))

-- The relation of an expression, from those of its parts.
use Rattle.std.proofs.Common.{◌≡◌, ℕ, ◌+◌, ◌<◌, Bool, ◌&&◌, eqb, List, drop, get_or, Some, None, Option, sym, refl, ap, ◌∙◌, subst}
use Rattle.std.proofs.lemmas.Bool.{lt-ltb}
use Rattle.descriptions.specs.declared.Unary.{Unary}
use Rattle.descriptions.specs.declared.Unary.TheVariants.{Converse, Closure, Domain}
use Rattle.descriptions.specs.declared.Binary.{Binary}
use Rattle.descriptions.specs.declared.Binary.TheVariants.{Union, Intersection, Difference, Composition}
use Rattle.descriptions.specs.Pictures.{Relation}
use Rattle.descriptions.specs.Meaning.{Expression, named, thing, identity, empty, unary, binary, transform, combine, value}
use Rattle.descriptions.proofs.Quantifiers.{Agree, any_cong, compose_cong, reach_cong}
use Rattle.matrices.specs.Words.{matrix, Shows}
use Rattle.matrices.proofs.Bits.{bit_zero}
use Rattle.evaluator.specs.declared.packing.Packed.{Packed}
use Rattle.evaluator.specs.declared.speaking.Environment.{Environment}
use Rattle.evaluator.specs.Packing.{unpacked, RelationAt}
use Rattle.evaluator.specs.Speaking.{seen, ThingAt}
use Rattle.evaluator.specs.Evaluating.{ShowsE, ValueSays, ValuesSay}
use Rattle.evaluator.proofs.Pictures.{relation_is}
use Rattle.evaluator.proofs.Environments.{spoken_at}
use Rattle.evaluator.specs.declared.evaluating.Reader.{Reader}
use Rattle.descriptions.specs.declared.extents.Written.{Written}
use Rattle.descriptions.specs.declared.heads.ExpressionHead.{ExpressionHead}
use Rattle.descriptions.specs.declared.heads.ExpressionHead.TheVariants as head
use Rattle.descriptions.specs.Heads.{head_of_e, HeadE}
use Rattle.descriptions.proofs.Unique.{unique_e}
use Rattle.descriptions.proofs.Parts.{operator_stands, operator_absent, pair_stands, pair_absent, pair_half}
use Rattle.descriptions.proofs.Operators.{no_expression, named_stands, named_absent, thing_stands, thing_absent, identity_stands, empty_stands, unary_operator, binary_operator, begins_unary, begins_binary}

-- operators look only at the things there are
pub transform_cong : (o : Unary) (m : ℕ) (r s : Relation) → Agree m r s → Agree m (transform o m r) (transform o m s)
transform_cong Converse m r s p i j hi hj = p j i hj hi
transform_cong Closure m r s p i j hi hj = reach_cong m m r s p i j hi hj
transform_cong Domain m r s p i j hi hj = ap (λ (b : Bool). eqb i j && b) (any_cong m _ _ (λ k hk. p i k hi hk))

pub combine_cong : (o : Binary) (m : ℕ) (r s r' s' : Relation) → Agree m r r' → Agree m s s' → Agree m (combine o m r s) (combine o m r' s')
combine_cong Union m r s r' s' p q i j hi hj = let a = p i j hi hj in let b = q i j hi hj in rw (a, b) refl
combine_cong Intersection m r s r' s' p q i j hi hj = let a = p i j hi hj in let b = q i j hi hj in rw (a, b) refl
combine_cong Difference m r s r' s' p q i j hi hj = let a = p i j hi hj in let b = q i j hi hj in rw (a, b) refl
combine_cong Composition m r s r' s' p q i j hi hj = compose_cong m r s r' s' p q i j hi hj

module _ (p : Packed) where
  pub shows_named : (v : List ℕ) (r : ℕ) → r < p.shape.relations → ShowsE p v (named r) (get_or p.words r 0)
  shows_named v r h i j hi hj = sym (relation_is p r i j h hi hj)

  pub shows_thing : (v : Environment) (x w : ℕ) → x < v.count → Shows p.shape.size.things w (λ i j. eqb i (get_or v.things x 0) && eqb j (get_or v.things x 0)) → ShowsE p (seen v) (thing x) w
  shows_thing v x w h f i j hi hj = f i j hi hj ∙ ap (λ (y : ℕ). eqb i y && eqb j y) (sym (spoken_at v.things v.count x h))

  pub shows_identity : (v : List ℕ) (w : ℕ) → Shows p.shape.size.things w (λ i j. eqb i j) → ShowsE p v identity w
  shows_identity v w f i j hi hj = f i j hi hj ∙ sym (ap (λ (b : Bool). b && eqb i j) (lt-ltb i p.shape.size.things hi))

  pub shows_empty : (v : List ℕ) → ShowsE p v empty 0
  shows_empty v i j hi hj = bit_zero _

  pub shows_unary : (v : List ℕ) (o : Unary) (x w : ℕ) → Shows p.shape.size.things w (transform o p.shape.size.things (matrix p.shape.size.things x)) → (a : Expression) → ShowsE p v a x → ShowsE p v (unary o a) w
  shows_unary v o x w f a s i j hi hj = f i j hi hj ∙ transform_cong o p.shape.size.things (matrix p.shape.size.things x) (value p.shape.size.things (unpacked p) v a) s i j hi hj

  pub shows_binary : (v : List ℕ) (o : Binary) (x y w : ℕ) → Shows p.shape.size.things w (combine o p.shape.size.things (matrix p.shape.size.things x) (matrix p.shape.size.things y)) → (a : Expression × Expression) → ShowsE p v a.0 x × ShowsE p v a.1 y → ShowsE p v (binary o a.0 a.1) w
  shows_binary v o x y w f a s i j hi hj = f i j hi hj ∙ combine_cong o p.shape.size.things (matrix p.shape.size.things x) (matrix p.shape.size.things y) (value p.shape.size.things (unpacked p) v a.0) (value p.shape.size.things (unpacked p) v a.1) s.0 s.1 i j hi hj

-- what is read at a place, from the head that stands there and from what its operands are read as
module _ (r : Reader) (at : ℕ) where
  abbrev p : Packed
  p = r.picture.now

  abbrev s : List ℕ
  s = r.bytes.now

  -- the relation that is read at a place
  abbrev pub ValueAt : ℕ → Option (Written ℕ) → Type 0
  ValueAt i x = ValueSays p r.spoken s i x

  abbrev pub ValuesAt : ℕ → Option (Written (ℕ × ℕ)) → Type 0
  ValuesAt i x = ValuesSay p r.spoken s i x

  pub no_value : head_of_e (drop at s) ≡ None → ValueAt at None
  no_value q = no_expression _ _ s at _ q

  module _ (h : ExpressionHead) (read : HeadE s at (Some h)) where
    pub no_named : (i : ℕ) → h ≡ head.Named i → RelationAt p i None → ValueAt at None
    no_named i e f = named_absent _ _ s at h read i _ e f

    pub named_value : (i w : ℕ) → h ≡ head.Named i → RelationAt p i (Some w) → ValueAt at (Some (record { value = w; end = at + 2 }))
    named_value i w e f = named_stands _ _ s at h read i _ e f.0 (subst (ShowsE p (seen r.spoken) (named i)) (sym f.1) (shows_named p (seen r.spoken) i f.0))

    pub no_thing : (i : ℕ) → h ≡ head.Thing i → ThingAt r.spoken i None → ValueAt at None
    no_thing i e f = thing_absent _ _ s at h read i _ e f

    pub thing_value : (i x w : ℕ) → h ≡ head.Thing i → ThingAt r.spoken i (Some x) → Shows p.shape.size.things w (λ i j. eqb i x && eqb j x) → ValueAt at (Some (record { value = w; end = at + 2 }))
    thing_value i x w e f g = thing_stands _ _ s at h read i _ e f.0 (shows_thing p r.spoken i w f.0 (subst (λ (y : ℕ). Shows p.shape.size.things w (λ i j. eqb i y && eqb j y)) f.1 g))

    pub identity_value : (w : ℕ) → h ≡ head.Identity → Shows p.shape.size.things w (λ i j. eqb i j) → ValueAt at (Some (record { value = w; end = at + 1 }))
    identity_value w e f = identity_stands _ _ s at h read _ e (shows_identity p (seen r.spoken) w f)

    pub empty_value : h ≡ head.Empty → ValueAt at (Some (record { value = 0; end = at + 1 }))
    empty_value e = empty_stands _ _ s at h read _ e (shows_empty p (seen r.spoken))

    pub no_unary : (o : Unary) → h ≡ head.Unary o → ValueAt (at + 1) None → ValueAt at None
    no_unary o e f = operator_absent _ _ _ _ _ s at (begins_unary s at h o e read) (unary_operator _ _ o) _ _ (λ a n. n) f

    pub unary_value : (o : Unary) (x : Written ℕ) (w : ℕ) → h ≡ head.Unary o → Shows p.shape.size.things w (transform o p.shape.size.things (matrix p.shape.size.things x.value)) → ValueAt (at + 1) (Some x) → ValueAt at (Some (record { value = w; end = x.end }))
    unary_value o x w e g f = operator_stands _ _ _ _ _ s at (begins_unary s at h o e read) (unary_operator _ _ o) x.end _ _ (shows_unary p (seen r.spoken) o x.value w g) f

    pub no_binary : (o : Binary) → h ≡ head.Binary o → ValuesAt (at + 1) None → ValueAt at None
    no_binary o e f = operator_absent _ _ _ _ _ s at (begins_binary s at h o e read) (binary_operator _ _ o) _ _ (λ a n. n) f

    pub binary_value : (o : Binary) (x : Written (ℕ × ℕ)) (w : ℕ) → h ≡ head.Binary o → Shows p.shape.size.things w (combine o p.shape.size.things (matrix p.shape.size.things x.value.0) (matrix p.shape.size.things x.value.1)) → ValuesAt (at + 1) (Some x) → ValueAt at (Some (record { value = w; end = x.end }))
    binary_value o x w e g f = operator_stands _ _ _ _ _ s at (begins_binary s at h o e read) (binary_operator _ _ o) x.end _ _ (shows_binary p (seen r.spoken) o x.value.0 x.value.1 w g) f

  -- two expressions, one after the other
  pub no_first : ValueAt at None → ValuesAt at None
  no_first f = pair_absent _ _ s at _ _ (λ a b n. n) f

  pub no_second : (one : Written ℕ) → ValueAt at (Some one) → ValueAt one.end None → ValuesAt at None
  no_second one f g = pair_half _ _ s at unique_e one.end _ _ _ (λ a b q n. n) f g

  pub both_values : (one other : Written ℕ) → ValueAt at (Some one) → ValueAt one.end (Some other) → ValuesAt at (Some (record { value = (one.value, other.value); end = other.end }))
  both_values one other f g = pair_stands _ _ s at one.end other.end _ _ _ (λ a b q r. (q, r)) f g

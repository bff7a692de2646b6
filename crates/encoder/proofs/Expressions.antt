-- The table of an expression, from those of its parts.
use Rattle.std.proofs.Common.{◌≡◌, ℕ, ◌+◌, ◌*◌, ◌/◌, ◌%◌, ◌<◌, ◌≤◌, Bool, cond, ◌&&◌, eqb, List, ◌++◌, drop, Some, None, Option, get_or, sym, ap, ◌∙◌, append_assoc, arith}
use Rattle.std.proofs.lemmas.Bool.{lt-ltb}
use Rattle.descriptions.specs.declared.Unary.{Unary}
use Rattle.descriptions.specs.declared.Binary.{Binary}
use Rattle.descriptions.specs.Meaning.{Expression, named, thing, identity, empty, unary, binary, transform, combine, value}
use Rattle.descriptions.specs.Reading.{write_pair}
use Rattle.descriptions.proofs.Unique.{Unique, unique_e}
use Rattle.evaluator.specs.declared.speaking.Environment.{Environment}
use Rattle.evaluator.specs.Speaking.{seen, ThingAt}
use Rattle.evaluator.proofs.Values.{transform_cong, combine_cong}
use Rattle.evaluator.proofs.Environments.{spoken_at}
use Rattle.gates.specs.declared.circuit.Circuit.{Circuit}
use Rattle.gates.specs.Circuits.{GrewC, AddsC, Full}
use Rattle.gates.proofs.Gates.{goes_fewer}
use Rattle.tables.specs.Tables.{shown, ShowsC, Are, combine_cost, transform_cost}
use Rattle.tables.proofs.Constants.{inputs_show, single_shows, identity_shows, empty_shows}
use Rattle.encoder.specs.Encoding.{bits_of, FirstAt, size_e, TooFew, EncodesE, EncodesPair, TableSays, TablesSay}
use Rattle.encoder.specs.declared.encoding.Encoder.{Encoder}
use Rattle.descriptions.specs.declared.extents.Written.{Written}
use Rattle.descriptions.specs.declared.heads.ExpressionHead.{ExpressionHead}
use Rattle.descriptions.specs.declared.heads.ExpressionHead.TheVariants as head
use Rattle.descriptions.specs.Heads.{head_of_e, HeadE}
use Rattle.descriptions.proofs.Parts.{operator_stands, operator_absent, operator_fails, pair_stands, pair_half}
use Rattle.descriptions.proofs.Operators.{no_expression, named_stands, named_absent, thing_stands, thing_absent, identity_stands, empty_stands, unary_operator, binary_operator, begins_unary, begins_binary}
use Rattle.encoder.proofs.Inputs.{bit_drawn}
use Rattle.encoder.proofs.Growth.{shows_still}
use Rattle.evaluator.proofs.Pictures.{row_fits}

-- expressions that need no gate
module _ (relations things : ℕ) (c : Circuit) (t : List ℕ) where
  pub named_encoded : (v : List ℕ) (r first : ℕ) → 1 + bits_of relations things ≤ c.base → r < relations → first ≡ 1 + r * (things * things) → Are things t (λ k. 2 * (first + k)) → EncodesE relations things v c c t (named r)
  named_encoded v r first h lt e f =
      let some = c.sound.some in
      let shows = inputs_show some things t first (omega (arith, row_fits r relations (things * things) lt)) f in
      record {
        few = omega arith;
        shows = record { filled = shows.filled; is = λ α o p d i j hi hj. shows.is α o i j hi hj ∙ ap (λ (z : ℕ). α (z + (i * things + j))) e ∙ bit_drawn relations things α p r i j lt hi hj d };
      }

  pub thing_encoded : (v : Environment) (y x : ℕ) → y < v.count → x ≡ get_or v.things y 0 → Are things t (λ k. cond (eqb (k / things) x && eqb (k % things) x) 0 1) → EncodesE relations things (seen v) c c t (thing y)
  thing_encoded v y x lt e f =
      let some = c.sound.some in
      let shows = single_shows some things t x f in
      record { few = omega arith; shows = record { filled = shows.filled; is = λ α o p d i j hi hj. shows.is α o i j hi hj ∙ ap (λ (z : ℕ). eqb i z && eqb j z) (e ∙ sym (spoken_at v.things v.count y lt)) } }

  pub identity_encoded : (v : List ℕ) → Are things t (λ k. cond (eqb (k / things) (k % things)) 0 1) → EncodesE relations things v c c t identity
  identity_encoded v f =
      let some = c.sound.some in
      let shows = identity_shows some things t f in
      record { few = omega arith; shows = record { filled = shows.filled; is = λ α o p d i j hi hj. shows.is α o i j hi hj ∙ sym (ap (λ (z : Bool). z && eqb i j) (lt-ltb i things hi)) } }

  pub empty_encoded : (v : List ℕ) → Are things t (λ k. 1) → EncodesE relations things v c c t empty
  empty_encoded v f =
      let some = c.sound.some in
      let shows = empty_shows some things t f in
      record { few = omega arith; shows = record { filled = shows.filled; is = λ α o p d i j hi hj. shows.is α o i j hi hj } }

module _ (relations things : ℕ) (v : List ℕ) (c d e : Circuit) where
  -- operators
  pub unary_encoded : (o : Unary) (t u : List ℕ) → AddsC d e (transform_cost o things) → ShowsC e things u (λ α. transform o things (shown α things t)) → (a : Expression) → EncodesE relations things v c d t a → EncodesE relations things v c e u (unary o a)
  unary_encoded o t u ad s a f =
      record {
        few = omega (arith, f.few, ad.few);
        shows = record { filled = s.filled; is = λ α z p dr i j hi hj. s.is α z i j hi hj ∙ transform_cong o things (shown α things t) (value things p v a) (f.shows.is α (goes_fewer ad.grew α z) p dr) i j hi hj };
      }

  pub unary_fails : (o : Unary) (t : List ℕ) → AddsC d e (transform_cost o things) → Full e → (a : Expression) → EncodesE relations things v c d t a → TooFew c e (size_e things (unary o a))
  unary_fails o t ad full a f = omega (arith, f.few, ad.few, full)

  pub pair_encoded : (t u : List ℕ) → GrewC d e → (a b : Expression) → EncodesE relations things v c d t a → EncodesE relations things v d e u b → EncodesPair relations things v c e (t, u) (a, b)
  pair_encoded t u g a b f h = record { few = omega (arith, f.few, h.few); shows_one = shows_still relations things v d e t a g f.shows; shows_other = h.shows }

  pub pair_fails : (t : List ℕ) (a b : Expression) → EncodesE relations things v c d t a → TooFew d e (size_e things b) → TooFew c e (size_e things a + size_e things b)
  pair_fails t a b f n = omega (arith, f.few, n)

  pub binary_encoded : (o : Binary) (t : List ℕ × List ℕ) (u : List ℕ) → AddsC d e (combine_cost o things) → ShowsC e things u (λ α. combine o things (shown α things t.0) (shown α things t.1)) → (a : Expression × Expression) → EncodesPair relations things v c d t a → EncodesE relations things v c e u (binary o a.0 a.1)
  binary_encoded o t u ad s a f =
      record {
        few = omega (arith, f.few, ad.few);
        shows = record {
          filled = s.filled;
          is = λ α z p dr i j hi hj.
              (let w = goes_fewer ad.grew α z in
              s.is α z i j hi hj ∙ combine_cong o things (shown α things t.0) (shown α things t.1) (value things p v a.0) (value things p v a.1) (f.shows_one.is α w p dr) (f.shows_other.is α w p dr) i j hi hj);
        };
      }

  pub binary_fails : (o : Binary) (t : List ℕ × List ℕ) → AddsC d e (combine_cost o things) → Full e → (a : Expression × Expression) → EncodesPair relations things v c d t a → TooFew c e (size_e things (binary o a.0 a.1))
  binary_fails o t ad full a f = omega (arith, f.few, ad.few, full)

-- two parts are read in one way
pub unique_pair : {A : Type 0} (write : A → List ℕ) → Unique write → Unique (write_pair write)
unique_pair {A} write unique a b s t p =
    let q = unique a.0 b.0 (write a.1 ++ s) (write b.1 ++ t) (sym (append_assoc (write a.0) (write a.1) s) ∙ p ∙ append_assoc (write b.0) (write b.1) t) in
    let r = unique a.1 b.1 s t q.1 in
    (ap (λ (z : A). (z, a.1)) q.0 ∙ ap (λ (z : A). (b.0, z)) r.0, r.1)

-- what is read at a place, from the head that stands there and from what its operands are read as
module _ (r : Encoder) (at : ℕ) where
  abbrev n : ℕ
  n = r.shape.relations

  abbrev m : ℕ
  m = r.shape.size.things

  abbrev s : List ℕ
  s = r.bytes.now

  -- the table that is read at a place, with the gates from a circuit to another
  abbrev pub TableAt : ℕ → Circuit → Circuit → Option (Written (List ℕ)) → Type 0
  TableAt i c d x = TableSays r.shape r.spoken s i c d x

  abbrev pub TablesAt : ℕ → Circuit → Circuit → Option (Written (List ℕ × List ℕ)) → Type 0
  TablesAt i c d x = TablesSay r.shape r.spoken s i c d x

  pub no_table : (c : Circuit) → head_of_e (drop at s) ≡ None → TableAt at c c None
  no_table c q = no_expression _ _ s at _ q

  module _ (h : ExpressionHead) (read : HeadE s at (Some h)) (c : Circuit) where
    pub no_named : (i : ℕ) → h ≡ head.Named i → FirstAt n m i None → TableAt at c c None
    no_named i e f = named_absent _ _ s at h read i _ e f

    pub named_table : (i first : ℕ) (t : List ℕ) → h ≡ head.Named i → 1 + bits_of n m ≤ c.base → FirstAt n m i (Some first) → Are m t (λ k. 2 * (first + k)) → TableAt at c c (Some (record { value = t; end = at + 2 }))
    named_table i first t e room f are = named_stands _ _ s at h read i _ e f.0 (named_encoded n m c t (seen r.spoken) i first room f.0 f.1 are)

    pub no_thing : (i : ℕ) → h ≡ head.Thing i → ThingAt r.spoken i None → TableAt at c c None
    no_thing i e f = thing_absent _ _ s at h read i _ e f

    pub thing_table : (i x : ℕ) (t : List ℕ) → h ≡ head.Thing i → ThingAt r.spoken i (Some x) → Are m t (λ k. cond (eqb (k / m) x && eqb (k % m) x) 0 1) → TableAt at c c (Some (record { value = t; end = at + 2 }))
    thing_table i x t e f are = thing_stands _ _ s at h read i _ e f.0 (thing_encoded n m c t r.spoken i x f.0 f.1 are)

    pub identity_table : (t : List ℕ) → h ≡ head.Identity → Are m t (λ k. cond (eqb (k / m) (k % m)) 0 1) → TableAt at c c (Some (record { value = t; end = at + 1 }))
    identity_table t e are = identity_stands _ _ s at h read _ e (identity_encoded n m c t (seen r.spoken) are)

    pub empty_table : (t : List ℕ) → h ≡ head.Empty → Are m t (λ k. 1) → TableAt at c c (Some (record { value = t; end = at + 1 }))
    empty_table t e are = empty_stands _ _ s at h read _ e (empty_encoded n m c t (seen r.spoken) are)

    module _ (d : Circuit) (o : Unary) (is : h ≡ head.Unary o) where
      pub no_operand : TableAt (at + 1) c d None → TableAt at c d None
      no_operand f = operator_absent _ _ _ _ _ s at (begins_unary s at h o is read) (unary_operator _ _ o) _ _ (λ a n. omega (arith, n)) f

      module _ (e : Circuit) (x : Written (List ℕ)) (adds : AddsC d e (transform_cost o m)) (f : TableAt (at + 1) c d (Some x)) where
        pub unary_full : Full e → TableAt at c e None
        unary_full full = operator_fails _ _ _ _ _ s at (begins_unary s at h o is read) (unary_operator _ _ o) unique_e x.end _ _ (unary_fails n m (seen r.spoken) c d e o x.value adds full) f

        pub unary_table : (u : List ℕ) → ShowsC e m u (λ α. transform o m (shown α m x.value)) → TableAt at c e (Some (record { value = u; end = x.end }))
        unary_table u w = operator_stands _ _ _ _ _ s at (begins_unary s at h o is read) (unary_operator _ _ o) x.end _ _ (unary_encoded n m (seen r.spoken) c d e o x.value u adds w) f

    module _ (d : Circuit) (o : Binary) (is : h ≡ head.Binary o) where
      pub no_operands : TablesAt (at + 1) c d None → TableAt at c d None
      no_operands f = operator_absent _ _ _ _ _ s at (begins_binary s at h o is read) (binary_operator _ _ o) _ _ (λ a n. omega (arith, n)) f

      module _ (e : Circuit) (x : Written (List ℕ × List ℕ)) (adds : AddsC d e (combine_cost o m)) (f : TablesAt (at + 1) c d (Some x)) where
        pub binary_full : Full e → TableAt at c e None
        binary_full full = operator_fails _ _ _ _ _ s at (begins_binary s at h o is read) (binary_operator _ _ o) (unique_pair _ unique_e) x.end _ _ (binary_fails n m (seen r.spoken) c d e o x.value adds full) f

        pub binary_table : (u : List ℕ) → ShowsC e m u (λ α. combine o m (shown α m x.value.0) (shown α m x.value.1)) → TableAt at c e (Some (record { value = u; end = x.end }))
        binary_table u w = operator_stands _ _ _ _ _ s at (begins_binary s at h o is read) (binary_operator _ _ o) x.end _ _ (binary_encoded n m (seen r.spoken) c d e o x.value u adds w) f

  -- two expressions, one after the other
  module _ (c d e : Circuit) (one : Written (List ℕ)) (f : TableAt at c d (Some one)) where
    pub no_second : TableAt one.end d e None → TablesAt at c e None
    no_second g = pair_half _ _ s at unique_e one.end _ _ _ (pair_fails n m (seen r.spoken) c d e one.value) f g

    pub both_tables : (other : Written (List ℕ)) → GrewC d e → TableAt one.end d e (Some other) → TablesAt at c e (Some (record { value = (one.value, other.value); end = other.end }))
    both_tables other grew g = pair_stands _ _ s at one.end other.end _ _ _ (pair_encoded n m (seen r.spoken) c d e one.value other.value grew) f g

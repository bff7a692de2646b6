-- The literal of a sentence, from those of its parts.
use Rattle.std.proofs.Common.{◌≡◌, ℕ, ◌+◌, ◌*◌, ◌<◌, ◌≤◌, Bool, true, false, not, ◌&&◌, ◌||◌, List, ◌∷◌, ◌++◌, drop, Some, None, Option, sym, refl, ap, ◌∙◌, subst, zero-mul, add-one, arith}
use Rattle.descriptions.specs.Pictures.{Relation, any, every}
use Rattle.descriptions.specs.Meaning.{Expression, Sentence, within, nonempty, negation, both, for_every, value}
use Rattle.descriptions.specs.Bytes.{write_s, fine_s}
use Rattle.descriptions.specs.Reading.{Stands, Absent, write_pair, fine_pair}
use Rattle.descriptions.proofs.Quantifiers.{any_cong, not_any}
use Rattle.descriptions.proofs.Unique.{unique_e, unique_s}
use Rattle.descriptions.specs.declared.extents.Written.{Written}
use Rattle.descriptions.specs.declared.heads.SentenceHead.{SentenceHead}
use Rattle.descriptions.specs.declared.heads.SentenceHead.TheVariants.{Within, Nonempty, Not, Both, ForEvery}
use Rattle.descriptions.specs.Heads.{head_of_s, HeadS}
use Rattle.descriptions.proofs.Parts.{stands_one, operator_stands, operator_absent, operator_fails, pair_stands, pair_absent, pair_half}
use Rattle.descriptions.proofs.Operators.{no_sentence, too_deep, begins, within_operator, nonempty_operator, negation_operator, both_operator, for_every_operator}
use Rattle.encoder.specs.declared.encoding.Encoder.{Encoder}
use Rattle.evaluator.specs.declared.speaking.Environment.{Environment}
use Rattle.descriptions.specs.declared.shapes.Shape.{Shape}
use Rattle.evaluator.specs.Speaking.{seen, Extended}
use Rattle.clauses.specs.Formulas as literal
use Rattle.clauses.proofs.Literals.{value_negation}
use Rattle.gates.specs.declared.circuit.Circuit.{Circuit}
use Rattle.gates.specs.Words.{mix}
use Rattle.gates.specs.Circuits.{GrewC, AddsC, GivesC, Full}
use Rattle.gates.proofs.Literals.{value_true, value_false, negated_low}
use Rattle.gates.proofs.Gates.{goes_fewer}
use Rattle.tables.specs.Tables.{shown, Are}
use Rattle.tables.proofs.Filling.{cost_step, cost_last}
use Rattle.tables.proofs.Constants.{empty_shows}
use Rattle.encoder.specs.Encoding.{size_s, TooFew, EncodesE, EncodesPair, EncodesS, EncodesEvery, TruthSays, EverySays, EverySaysIf}
use Rattle.encoder.proofs.Expressions.{TableAt, TablesAt, unique_pair}

not_but : (a b : Bool) → (not a || b) ≡ not (a && not b)
not_but true true = refl
not_but true false = refl
not_but false b = refl

and_true : (a : Bool) → (a && true) ≡ a
and_true true = refl
and_true false = refl

-- within, and apart
within_is : (m : ℕ) (r s : Relation) → not (any m (λ i. any m (λ j. r i j && not (s i j)))) ≡ every m (λ i. every m (λ j. not (r i j) || s i j))
within_is m r s =
    not_any m (λ i. every m (λ j. not (r i j) || s i j)) (λ i. any m (λ j. r i j && not (s i j)))
    (λ i. sym (not_any m (λ j. not (r i j) || s i j) (λ j. r i j && not (s i j)) (λ j. not_but (r i j) (s i j))))

-- some pair stands in the table of one relation and not in that of the other
abbrev Apart : ℕ → List ℕ → List ℕ → literal.Assignment → Bool
Apart m t u α = any m (λ i. any m (λ j. shown α m t i j && not (shown α m u i j)))

apart_cong : (m : ℕ) (α : literal.Assignment) (t u : List ℕ) (r s : Relation) → ((i j : ℕ) → i < m → j < m → shown α m t i j ≡ r i j) → ((i j : ℕ) → i < m → j < m → shown α m u i j ≡ s i j) → Apart m t u α ≡ any m (λ i. any m (λ j. r i j && not (s i j)))
apart_cong m α t u r s f g = any_cong m _ _ (λ i hi. any_cong m _ _ (λ j hj. let a = f i j hi hj in let b = g i j hi hj in rw (a, b) refl))

negated_value : (α : literal.Assignment) (l l' : ℕ) (b : Bool) → l' ≡ literal.negation l → literal.value α l ≡ b → literal.value α l' ≡ not b
negated_value α l l' b e q = ap (literal.value α) e ∙ value_negation α l ∙ ap not q

module _ (relations things : ℕ) (v : List ℕ) (c d e : Circuit) where
  pub within_encoded : (t : List ℕ × List ℕ) (l l' : ℕ) → AddsC d e (things * things) → GivesC e l (Apart things t.0 t.1) → l' ≡ literal.negation l → (a : Expression × Expression) → EncodesPair relations things v c d t a → EncodesS relations things v c e l' (within a.0 a.1)
  within_encoded t l l' ad w q a f =
      record {
        few = omega (arith, f.few, ad.few);
        means = record {
          low = negated_low l l' _ q w.low;
          is = λ α z p dr.
              (let y = goes_fewer ad.grew α z in
              negated_value α l l' _ q (w.is α z ∙ apart_cong things α t.0 t.1 (value things p v a.0) (value things p v a.1) (f.shows_one.is α y p dr) (f.shows_other.is α y p dr)) ∙ within_is things (value things p v a.0) (value things p v a.1));
        };
      }

  pub within_fails : (t : List ℕ × List ℕ) → AddsC d e (things * things) → Full e → (a : Expression × Expression) → EncodesPair relations things v c d t a → TooFew c e (size_s things (within a.0 a.1))
  within_fails t ad full a f = omega (arith, f.few, ad.few, full)

  pub nonempty_encoded : (t u : List ℕ) (l : ℕ) → Are things u (λ k. 1) → AddsC d e (things * things) → GivesC e l (Apart things t u) → (a : Expression) → EncodesE relations things v c d t a → EncodesS relations things v c e l (nonempty a)
  nonempty_encoded t u l pl ad w a f =
      let some = d.sound.some in
      record {
        few = omega (arith, f.few, ad.few);
        means = record {
          low = w.low;
          is = λ α z p dr.
              (let y = goes_fewer ad.grew α z in
              w.is α z ∙ apart_cong things α t u (value things p v a) (λ i j. false) (f.shows.is α y p dr) ((empty_shows some things u pl).is α y) ∙ any_cong things _ _ (λ i hi. any_cong things _ _ (λ j hj. and_true (value things p v a i j))));
        };
      }

  pub nonempty_fails : (t : List ℕ) → AddsC d e (things * things) → Full e → (a : Expression) → EncodesE relations things v c d t a → TooFew c e (size_s things (nonempty a))
  nonempty_fails t ad full a f = omega (arith, f.few, ad.few, full)

  pub not_encoded : (l l' : ℕ) → l' ≡ literal.negation l → (a : Sentence) → EncodesS relations things v c d l a → EncodesS relations things v c d l' (negation a)
  not_encoded l l' q a f = record { few = f.few; means = record { low = negated_low l l' _ q f.means.low; is = λ α z p dr. negated_value α l l' _ q (f.means.is α z p dr) } }

  -- both
  pub both_half : (l : ℕ) (a b : Sentence) → EncodesS relations things v c d l a → TooFew d e (size_s things b) → TooFew c e (size_s things a + size_s things b)
  both_half l a b f n = omega (arith, f.few, n)

  module _ (g : Circuit) (l k : ℕ) (ad : AddsC e g 1) where
    pub both_encoded : (n : ℕ) → GrewC d e → GivesC g n (λ α. mix α 1 l k) → (a : Sentence × Sentence) → EncodesS relations things v c d l a.0 × EncodesS relations things v d e k a.1 → EncodesS relations things v c g n (both a.0 a.1)
    both_encoded n gr w a f =
        record {
          few = omega (arith, f.0.few, f.1.few, ad.few);
          means = record {
            low = w.low;
            is = λ α z p dr.
                (let y = goes_fewer ad.grew α z in
                let one = f.0.means.is α (goes_fewer gr α y) p dr in let other = f.1.means.is α y p dr in
                w.is α z ∙ rw (value_false α z.top, one, other) refl);
          };
        }

    pub both_fails : Full g → (a : Sentence × Sentence) → EncodesS relations things v c d l a.0 × EncodesS relations things v d e k a.1 → TooFew c g (size_s things (both a.0 a.1))
    both_fails full a f = omega (arith, f.0.few, f.1.few, ad.few, full)

-- for every thing, one after the other
pub every_none : (x : Shape) (v : Environment) (s : List ℕ) (at : ℕ) (c : Circuit) → EverySays x v s at c c 0 0
every_none x v s at c e t p = let some = c.sound.some in record { few = omega (arith, zero-mul (size_s x.size.things e + 1)); low = omega arith; is = λ α o q dr. value_true α o.top }

pub every_encoded : (relations things : ℕ) (v : List ℕ) (c d : Circuit) (l : ℕ) (a : Sentence) → EncodesEvery relations things v c d things l a → EncodesS relations things v c d l (for_every a)
every_encoded relations things v c d l a f = record { few = f.few; means = record { low = f.low; is = f.is } }

pub every_stands : (x : Shape) (v : Environment) (fine : Sentence → Bool) (s : List ℕ) (at end l : ℕ) (c d : Circuit) (P : Sentence → Type 0) → Stands write_s fine s at end P → EverySays x v s at c d x.size.things l → Stands write_s fine s at end (λ a. EncodesEvery x.relations x.size.things (seen v) c d x.size.things l a)
every_stands x v fine s at end l c d P b f = record { part = b.part; is_fine = b.is_fine; written = b.written; further = b.further; inside = b.inside; says = f b.part (drop end s) b.written }

module _ (x : Shape) (v v' : Environment) (s : List ℕ) (at k l : ℕ) (c d e : Circuit) (inv : EverySays x v s at c d k l) (lt : k < x.size.things) (ext : Extended v k v') where
  module _ (g : Circuit) (end n : ℕ) (one : Stands write_s (fine_s x.relations v'.count) s at end (λ a. EncodesS x.relations x.size.things (seen v') d e n a)) (ad : AddsC e g 1) where
    now_encoded : (a : Sentence) (t : List ℕ) → drop at s ≡ write_s a ++ t → EncodesS x.relations x.size.things (k ∷ seen v) d e n a
    now_encoded a t p = subst (λ (w : List ℕ). EncodesS x.relations x.size.things w d e n a) ext.newest (stands_one write_s (fine_s x.relations v'.count) s at end _ unique_s one a t p)

    pub every_fails : Full g → Absent write_s (fine_s x.relations (v.count + 1)) s at (λ a. TooFew c g (x.size.things * (size_s x.size.things a + 1)))
    every_fails full a t ok p = omega (arith, full, ad.few, (now_encoded a t p).few, (inv a t p).few, cost_last k x.size.things (size_s x.size.things a + 1) lt)

    pub every_more : (m : ℕ) → GrewC d e → GivesC g m (λ α. mix α 1 n l) → EverySays x v s at c g (k + 1) m
    every_more m gr w a t p =
        let y = now_encoded a t p in
        let i = inv a t p in
        record {
          few = omega (arith, ad.few, y.few, i.few, cost_step k (size_s x.size.things a + 1));
          low = w.low;
          is = λ α z q dr.
              (let o = goes_fewer ad.grew α z in
              let now = y.means.is α o q dr in let before = i.is α (goes_fewer gr α o) q dr in
              w.is α z ∙ rw (value_false α z.top, now, before, add-one) refl);
        }

-- what is read at a place, from the head that stands there and from what its operands are read as
module _ (r : Encoder) (at : ℕ) where
  abbrev n : ℕ
  n = r.shape.relations

  abbrev m : ℕ
  m = r.shape.size.things

  abbrev s : List ℕ
  s = r.bytes.now

  -- the literal that is read at a place, with the gates from a circuit to another
  abbrev pub TruthAt : ℕ → Circuit → Circuit → Option (Written ℕ) → Type 0
  TruthAt i c d x = TruthSays r.shape r.spoken s i c d x

  pub no_truth : (c : Circuit) → head_of_s (drop at s) ≡ None → TruthAt at c c None
  no_truth c q = no_sentence _ _ s at _ q

  module _ (h : SentenceHead) (read : HeadS s at (Some h)) (c d : Circuit) where
    module _ (is : h ≡ Within) where
      pub no_tables : TablesAt r at (at + 1) c d None → TruthAt at c d None
      no_tables f = operator_absent _ _ _ _ _ s at (begins s at h Within is read) (within_operator _ _) _ _ (λ a n. omega (arith, n)) f

      module _ (e : Circuit) (x : Written (List ℕ × List ℕ)) (adds : AddsC d e (m * m)) (f : TablesAt r at (at + 1) c d (Some x)) where
        pub within_full : Full e → TruthAt at c e None
        within_full full = operator_fails _ _ _ _ _ s at (begins s at h Within is read) (within_operator _ _) (unique_pair _ unique_e) x.end _ _ (within_fails n m (seen r.spoken) c d e x.value adds full) f

        pub within_truth : (l l' : ℕ) → GivesC e l (Apart m x.value.0 x.value.1) → l' ≡ literal.negation l → TruthAt at c e (Some (record { value = l'; end = x.end }))
        within_truth l l' w q = operator_stands _ _ _ _ _ s at (begins s at h Within is read) (within_operator _ _) x.end _ _ (within_encoded n m (seen r.spoken) c d e x.value l l' adds w q) f

    module _ (is : h ≡ Nonempty) where
      pub no_relation : TableAt r at (at + 1) c d None → TruthAt at c d None
      no_relation f = operator_absent _ _ _ _ _ s at (begins s at h Nonempty is read) (nonempty_operator _ _) _ _ (λ a n. omega (arith, n)) f

      module _ (e : Circuit) (x : Written (List ℕ)) (adds : AddsC d e (m * m)) (f : TableAt r at (at + 1) c d (Some x)) where
        pub nonempty_full : Full e → TruthAt at c e None
        nonempty_full full = operator_fails _ _ _ _ _ s at (begins s at h Nonempty is read) (nonempty_operator _ _) unique_e x.end _ _ (nonempty_fails n m (seen r.spoken) c d e x.value adds full) f

        pub nonempty_truth : (u : List ℕ) (l : ℕ) → Are m u (λ k. 1) → GivesC e l (Apart m x.value u) → TruthAt at c e (Some (record { value = l; end = x.end }))
        nonempty_truth u l are w = operator_stands _ _ _ _ _ s at (begins s at h Nonempty is read) (nonempty_operator _ _) x.end _ _ (nonempty_encoded n m (seen r.spoken) c d e x.value u l are adds w) f

    module _ (is : h ≡ Not) where
      pub no_not : TruthAt (at + 1) c d None → TruthAt at c d None
      no_not f = operator_absent _ _ _ _ _ s at (begins s at h Not is read) (negation_operator _ _) _ _ (λ a n. omega (arith, n)) f

      pub not_truth : (x : Written ℕ) (l : ℕ) → l ≡ literal.negation x.value → TruthAt (at + 1) c d (Some x) → TruthAt at c d (Some (record { value = l; end = x.end }))
      not_truth x l q f = operator_stands _ _ _ _ _ s at (begins s at h Not is read) (negation_operator _ _) x.end _ _ (not_encoded n m (seen r.spoken) c d d x.value l q) f

    module _ (is : h ≡ Both) where
      pub no_first : TruthAt (at + 1) c d None → TruthAt at c d None
      no_first f = operator_absent _ _ _ _ _ s at (begins s at h Both is read) (both_operator _ _) _ _ (λ a n. omega (arith, n)) (pair_absent _ _ s (at + 1) _ (λ x. TooFew c d (size_s m x.0 + size_s m x.1)) (λ a b n. omega (arith, n)) f)

      module _ (e : Circuit) (one : Written ℕ) (f : TruthAt (at + 1) c d (Some one)) where
        pub no_second : TruthAt one.end d e None → TruthAt at c e None
        no_second g = operator_absent _ _ _ _ _ s at (begins s at h Both is read) (both_operator _ _) _ _ (λ a n. omega (arith, n)) (pair_half _ _ s (at + 1) unique_s one.end _ _ (λ x. TooFew c e (size_s m x.0 + size_s m x.1)) (both_half n m (seen r.spoken) c d e one.value) f g)

        module _ (g : Circuit) (other : Written ℕ) (second : TruthAt one.end d e (Some other)) (adds : AddsC e g 1) where
          both_stand : Stands (write_pair write_s) (fine_pair (fine_s n r.spoken.count)) s (at + 1) other.end (λ a. EncodesS n m (seen r.spoken) c d one.value a.0 × EncodesS n m (seen r.spoken) d e other.value a.1)
          both_stand = pair_stands _ _ s (at + 1) one.end other.end _ _ _ (λ a b x y. (x, y)) f second

          pub both_full : Full g → TruthAt at c g None
          both_full full = operator_fails _ _ _ _ _ s at (begins s at h Both is read) (both_operator _ _) (unique_pair _ unique_s) other.end _ _ (both_fails n m (seen r.spoken) c d e g one.value other.value adds full) both_stand

          pub both_truth : (l : ℕ) → GrewC d e → GivesC g l (λ α. mix α 1 one.value other.value) → TruthAt at c g (Some (record { value = l; end = other.end }))
          both_truth l grew w = operator_stands _ _ _ _ _ s at (begins s at h Both is read) (both_operator _ _) other.end _ _ (both_encoded n m (seen r.spoken) c d e g one.value other.value adds l grew w) both_stand

    module _ (is : h ≡ ForEvery) where
      pub too_deep_truth : 4 ≤ r.spoken.count → TruthAt at c c None
      too_deep_truth le = too_deep _ _ s at h _ is read le

      module _ (lt : r.spoken.count < 4) where
        pub no_body : Absent write_s (fine_s n (r.spoken.count + 1)) s (at + 1) (λ e. ⊥) → TruthAt at c c None
        no_body f = operator_absent _ _ _ _ _ s at (begins s at h ForEvery is read) (for_every_operator _ _ lt) _ _ (λ a n. absurd n) f

        pub no_for_every : EverySaysIf r.shape r.spoken s (at + 1) c d None → TruthAt at c d None
        no_for_every f = operator_absent _ _ _ _ _ s at (begins s at h ForEvery is read) (for_every_operator _ _ lt) _ _ (λ a n. n) f

        pub for_every_truth : (end l : ℕ) (P : Sentence → Type 0) → Stands write_s (fine_s n (r.spoken.count + 1)) s (at + 1) end P → EverySays r.shape r.spoken s (at + 1) c d m l → TruthAt at c d (Some (record { value = l; end = end }))
        for_every_truth end l P body f = operator_stands _ _ _ _ _ s at (begins s at h ForEvery is read) (for_every_operator _ _ lt) end _ _ (every_encoded n m (seen r.spoken) c d l) (every_stands r.shape r.spoken _ s (at + 1) end l c d P body f)

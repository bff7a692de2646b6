-- The operators of expressions and sentences; what stands at a place where there is no operator.
use Rattle.std.proofs.Common.{◌≡◌, ℕ, ◌+◌, ◌<◌, ◌≤◌, Bool, true, false, ◌&&◌, ltb, List, ◌∷◌, ◌++◌, length, drop, Some, None, sym, refl, ap, ◌∙◌, subst, arith}
use Rattle.std.proofs.lemmas.Bool.{lt-ltb, le-ltb, and_parts, both_ways}
use Rattle.descriptions.specs.declared.Unary.{Unary}
use Rattle.descriptions.specs.declared.Binary.{Binary}
use Rattle.descriptions.specs.declared.heads.ExpressionHead.{ExpressionHead}
use Rattle.descriptions.specs.declared.heads.ExpressionHead.TheVariants as head
use Rattle.descriptions.specs.declared.heads.SentenceHead.{SentenceHead}
use Rattle.descriptions.specs.declared.heads.SentenceHead.TheVariants.{Within, Nonempty, Not, Both, ForEvery}
use Rattle.descriptions.specs.Meaning.{Expression, named, thing, identity, empty, unary, binary, Sentence, within, nonempty, negation, both, for_every}
use Rattle.descriptions.specs.Bytes.{unary_byte, binary_byte, write_e, write_s, fine_e, fine_s}
use Rattle.descriptions.specs.Heads.{head_e, head_s, head_of_e, head_of_s, HeadE, HeadS}
use Rattle.descriptions.specs.Reading.{Stands, Absent, write_pair, fine_pair}
use Rattle.descriptions.proofs.Inversion.{top_e, top_s, head_of_unary, head_of_binary, head_of_write_e, head_of_write_s, MadeE, made_by_e, made_by_s}
use Rattle.descriptions.proofs.Parts.{Operator}

module _ (n k : ℕ) where
  abbrev pub unary_operator : (o : Unary) → Operator write_e (fine_e n k) write_e (fine_e n k) (unary_byte o)
  unary_operator o = record { make = unary o; writes = λ a. refl; fines = λ a. refl; made = λ e u t p. made_by_e (head.Unary o) e t _ p (head_of_unary o u) }

  abbrev pub binary_operator : (o : Binary) → Operator write_e (fine_e n k) (write_pair write_e) (fine_pair (fine_e n k)) (binary_byte o)
  binary_operator o = record { make = λ a. binary o a.0 a.1; writes = λ a. refl; fines = λ a. refl; made = λ e u t p. made_by_e (head.Binary o) e t _ p (head_of_binary o u) }

  abbrev pub within_operator : Operator write_s (fine_s n k) (write_pair write_e) (fine_pair (fine_e n k)) 20
  within_operator = record { make = λ a. within a.0 a.1; writes = λ a. refl; fines = λ a. refl; made = λ e u t p. made_by_s Within e t _ p refl }

  abbrev pub nonempty_operator : Operator write_s (fine_s n k) write_e (fine_e n k) 21
  nonempty_operator = record { make = nonempty; writes = λ a. refl; fines = λ a. refl; made = λ e u t p. made_by_s Nonempty e t _ p refl }

  abbrev pub negation_operator : Operator write_s (fine_s n k) write_s (fine_s n k) 22
  negation_operator = record { make = negation; writes = λ a. refl; fines = λ a. refl; made = λ e u t p. made_by_s Not e t _ p refl }

  abbrev pub both_operator : Operator write_s (fine_s n k) (write_pair write_s) (fine_pair (fine_s n k)) 23
  both_operator = record { make = λ a. both a.0 a.1; writes = λ a. refl; fines = λ a. refl; made = λ e u t p. made_by_s Both e t _ p refl }

  abbrev pub for_every_operator : k < 4 → Operator write_s (fine_s n k) write_s (fine_s n (k + 1)) 24
  for_every_operator lt = record { make = for_every; writes = λ a. refl; fines = λ a. ap (λ (b : Bool). b && fine_s n (k + 1) a) (lt-ltb k 4 lt); made = λ e u t p. made_by_s ForEvery e t _ p refl }

-- the byte of the head that was read
module _ (s : List ℕ) (at : ℕ) where
  pub head_is : (h g : ExpressionHead) → h ≡ g → HeadE s at (Some h) → HeadE s at (Some g)
  head_is h g e f = subst (λ (x : ExpressionHead). HeadE s at (Some x)) e f

  pub begins_unary : (h : ExpressionHead) (o : Unary) → h ≡ head.Unary o → HeadE s at (Some h) → drop at s ≡ unary_byte o ∷ drop (at + 1) s
  begins_unary h o e f = (head_is h (head.Unary o) e f).0

  pub begins_binary : (h : ExpressionHead) (o : Binary) → h ≡ head.Binary o → HeadE s at (Some h) → drop at s ≡ binary_byte o ∷ drop (at + 1) s
  begins_binary h o e f = (head_is h (head.Binary o) e f).0

  pub begins : (h g : SentenceHead) → h ≡ g → HeadS s at (Some h) → drop at s ≡ head_s g ∷ drop (at + 1) s
  begins h g e f = f.0 ∙ ap (λ (x : SentenceHead). head_s x ∷ drop (at + 1) s) e

none_some : {A : Type 0} {B : Type 0} (x : A) → None ≡ Some x → B
none_some x e = let z : ◌≡◌ {A = ℕ} 0 1 = cc in absurd (omega arith)

module _ (n k : ℕ) (s : List ℕ) (at : ℕ) where
  -- no head, so nothing
  pub no_expression : (N : Expression → Type 0) → head_of_e (drop at s) ≡ None → Absent write_e (fine_e n k) s at N
  no_expression N q e t ok p = none_some (top_e e) (sym q ∙ ap head_of_e p ∙ head_of_write_e e t)

  pub no_sentence : (N : Sentence → Type 0) → head_of_s (drop at s) ≡ None → Absent write_s (fine_s n k) s at N
  no_sentence N q e t ok p = none_some (top_s e) (sym q ∙ ap head_of_s p ∙ head_of_write_s e t)

  -- heads with no operand
  module _ (h : ExpressionHead) (read : HeadE s at (Some h)) where
    leaf : (end : ℕ) (a : Expression) (g : ExpressionHead) (P : Expression → Type 0) → h ≡ g → write_e a ≡ head_e g → fine_e n k a ≡ true → at + length (head_e g) ≡ end → at < end → P a → Stands write_e (fine_e n k) s at end P
    leaf end a g P hg e ok q lt x =
        let f : HeadE s at (Some g) = head_is s at h g hg read in
        record { part = a; is_fine = ok; written = f.0 ∙ ap (λ (w : List ℕ). w ++ drop (at + length (head_e g)) s) (sym e) ∙ ap (λ (i : ℕ). write_e a ++ drop i s) q; further = lt; inside = subst (λ (i : ℕ). i ≤ length s) q f.1; says = x }

    no_leaf : (a : Expression) (g : ExpressionHead) (N : Expression → Type 0) → h ≡ g → ((e : Expression) → MadeE g e → e ≡ a) → fine_e n k a ≡ false → ((u : List ℕ) → head_of_e (head_e g ++ u) ≡ Some g) → Absent write_e (fine_e n k) s at N
    no_leaf a g N hg m ok q e t oke p =
        let f : HeadE s at (Some g) = head_is s at h g hg read in
        absurd (both_ways (fine_e n k a) ok (ap (fine_e n k) (sym (m e (made_by_e g e t _ (sym f.0 ∙ p) (q _)))) ∙ oke))

    pub named_stands : (r : ℕ) (P : Expression → Type 0) → h ≡ head.Named r → r < n → P (named r) → Stands write_e (fine_e n k) s at (at + 2) P
    named_stands r P e lt x = leaf (at + 2) (named r) (head.Named r) P e refl (lt-ltb r n lt) refl (omega arith) x

    pub named_absent : (r : ℕ) (N : Expression → Type 0) → h ≡ head.Named r → n ≤ r → Absent write_e (fine_e n k) s at N
    named_absent r N e le = no_leaf (named r) (head.Named r) N e (λ x m. m) (le-ltb r n le) (λ u. refl)

    pub thing_stands : (x : ℕ) (P : Expression → Type 0) → h ≡ head.Thing x → x < k → P (thing x) → Stands write_e (fine_e n k) s at (at + 2) P
    thing_stands x P e lt y = leaf (at + 2) (thing x) (head.Thing x) P e refl (lt-ltb x k lt) refl (omega arith) y

    pub thing_absent : (x : ℕ) (N : Expression → Type 0) → h ≡ head.Thing x → k ≤ x → Absent write_e (fine_e n k) s at N
    thing_absent x N e le = no_leaf (thing x) (head.Thing x) N e (λ y m. m) (le-ltb x k le) (λ u. refl)

    pub identity_stands : (P : Expression → Type 0) → h ≡ head.Identity → P identity → Stands write_e (fine_e n k) s at (at + 1) P
    identity_stands P e x = leaf (at + 1) identity head.Identity P e refl refl refl (omega arith) x

    pub empty_stands : (P : Expression → Type 0) → h ≡ head.Empty → P empty → Stands write_e (fine_e n k) s at (at + 1) P
    empty_stands P e x = leaf (at + 1) empty head.Empty P e refl refl refl (omega arith) x

  -- a fifth 'for every'
  pub too_deep : (h : SentenceHead) (N : Sentence → Type 0) → h ≡ ForEvery → HeadS s at (Some h) → 4 ≤ k → Absent write_s (fine_s n k) s at N
  too_deep h N e f le c t ok p =
      let m = made_by_s ForEvery c t _ (sym (begins s at h ForEvery e f) ∙ p) refl in
      absurd (both_ways (ltb k 4) (le-ltb k 4 le) (and_parts (ltb k 4) (fine_s n (k + 1) m.0) (ap (fine_s n k) (sym m.1) ∙ ok)).0)

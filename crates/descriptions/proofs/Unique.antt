-- Bytes are the writing of at most one description: what begins with one expression begins with no other.
use Rattle.std.proofs.Common.{◌≡◌, ℕ, List, [], ◌∷◌, ◌++◌, sym, refl, ap, ◌∙◌, append_assoc}
use Rattle.std.proofs.lemmas.List.{append-nil}
use Rattle.descriptions.specs.declared.heads.ExpressionHead.TheVariants as head
use Rattle.descriptions.specs.declared.heads.SentenceHead.TheVariants.{Within, Nonempty, Not, Both, ForEvery}
use Rattle.descriptions.specs.Meaning.{Expression, named, thing, identity, empty, unary, binary, within, nonempty, negation, both, for_every}
use Rattle.descriptions.specs.Bytes.{unary_byte, binary_byte, write_e, write_s}
use Rattle.descriptions.specs.Reading.{write_pair}
use Rattle.descriptions.specs.Theorems.{OneDescription}
use Rattle.descriptions.proofs.Inversion.{made_by_e, made_by_s, head_of_unary, head_of_binary}

-- a writing is told apart from every other, whatever follows
abbrev pub Apart : {A : Type 0} → (A → List ℕ) → A → Type 0
Apart {A} write a = (b : A) (s t : List ℕ) → write a ++ s ≡ write b ++ t → (a ≡ b) × (s ≡ t)

abbrev pub Unique : {A : Type 0} → (A → List ℕ) → Type 0
Unique {A} write = (a : A) → Apart write a

pub head_same : (g h : ℕ) (s t : List ℕ) → g ∷ s ≡ h ∷ t → g ≡ h
head_same g h s t e = cc

pub tail_same : (g h : ℕ) (s t : List ℕ) → g ∷ s ≡ h ∷ t → s ≡ t
tail_same g h s t e = cc

pub pair_apart : {A : Type 0} (write : A → List ℕ) (x : A × A) → Apart write x.0 → Apart write x.1 → Apart (write_pair write) x
pair_apart write x f g y s t e =
    let e1 : write x.0 ++ (write x.1 ++ s) ≡ write y.0 ++ (write y.1 ++ t) = sym (append_assoc (write x.0) (write x.1) s) ∙ e ∙ append_assoc (write y.0) (write y.1) t in
    let p = f y.0 (write x.1 ++ s) (write y.1 ++ t) e1 in
    let q = g y.1 s t p.1 in
    (λ i. (p.0 i, q.0 i), q.1)

-- an operator over operands that are told apart
module _ {X A : Type 0} (writeX : X → List ℕ) (write_a : A → List ℕ) (h : ℕ) (op : A → X) (writes : (a : A) → writeX (op a) ≡ h ∷ write_a a) where
  op_apart : (a : A) (b : X) (s t : List ℕ) → Apart write_a a → ((x : A) × (b ≡ op x)) → writeX (op a) ++ s ≡ writeX b ++ t → (op a ≡ b) × (s ≡ t)
  op_apart a b s t f m e =
      let e1 : h ∷ (write_a a ++ s) ≡ h ∷ (write_a m.0 ++ t) = ap (λ (z : List ℕ). z ++ s) (sym (writes a)) ∙ e ∙ ap (λ (z : X). writeX z ++ t) m.1 ∙ ap (λ (z : List ℕ). z ++ t) (writes m.0) in
      let p = f m.0 s t (tail_same h h _ _ e1) in
      (ap op p.0 ∙ sym m.1, p.1)

leaf_apart : (a b : Expression) → b ≡ a → (s t : List ℕ) → ((u v : List ℕ) → write_e a ++ u ≡ write_e a ++ v → u ≡ v) → write_e a ++ s ≡ write_e b ++ t → (a ≡ b) × (s ≡ t)
leaf_apart a b p s t inj e = (sym p, inj s t (e ∙ ap (λ (z : Expression). write_e z ++ t) p))

pub unique_e : Unique write_e
unique_e (named r) b s t e = leaf_apart (named r) b (made_by_e (head.Named r) b t _ e refl) s t (λ u v p. tail_same r r u v (tail_same 0 0 _ _ p)) e
unique_e (thing x) b s t e = leaf_apart (thing x) b (made_by_e (head.Thing x) b t _ e refl) s t (λ u v p. tail_same x x u v (tail_same 1 1 _ _ p)) e
unique_e identity b s t e = leaf_apart identity b (made_by_e head.Identity b t _ e refl) s t (λ u v p. tail_same 2 2 _ _ p) e
unique_e empty b s t e = leaf_apart empty b (made_by_e head.Empty b t _ e refl) s t (λ u v p. tail_same 3 3 _ _ p) e
unique_e (unary o a) b s t e = op_apart write_e write_e (unary_byte o) (unary o) (λ x. refl) a b s t (unique_e a) (made_by_e (head.Unary o) b t _ e (head_of_unary o _)) e
unique_e (binary o a c) b s t e = op_apart write_e (write_pair write_e) (binary_byte o) (λ x. binary o x.0 x.1) (λ x. refl) (a, c) b s t (pair_apart write_e (a, c) (unique_e a) (unique_e c)) (made_by_e (head.Binary o) b t _ e (head_of_binary o _)) e

pub unique_s : Unique write_s
unique_s (within a c) b s t e = op_apart write_s (write_pair write_e) 20 (λ x. within x.0 x.1) (λ x. refl) (a, c) b s t (pair_apart write_e (a, c) (unique_e a) (unique_e c)) (made_by_s Within b t _ e refl) e
unique_s (nonempty a) b s t e = op_apart write_s write_e 21 nonempty (λ x. refl) a b s t (unique_e a) (made_by_s Nonempty b t _ e refl) e
unique_s (negation a) b s t e = op_apart write_s write_s 22 negation (λ x. refl) a b s t (unique_s a) (made_by_s Not b t _ e refl) e
unique_s (both a c) b s t e = op_apart write_s (write_pair write_s) 23 (λ x. both x.0 x.1) (λ x. refl) (a, c) b s t (pair_apart write_s (a, c) (unique_s a) (unique_s c)) (made_by_s Both b t _ e refl) e
unique_s (for_every a) b s t e = op_apart write_s write_s 24 for_every (λ x. refl) a b s t (unique_s a) (made_by_s ForEvery b t _ e refl) e

pub one_description : OneDescription
one_description s d e p q =
    let r = sym p.written ∙ q.written in
    let n = head_same d.relations e.relations _ _ r in
    let t : write_s d.sentence ++ [] ≡ write_s e.sentence ++ [] = append-nil _ ∙ tail_same d.relations e.relations _ _ r ∙ sym (append-nil _) in
    let u = (unique_s d.sentence e.sentence [] [] t).0 in
    λ i. record { relations = n i; sentence = u i }

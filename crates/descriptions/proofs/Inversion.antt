-- The head that the bytes begin with says what they are the writing of.
use Rattle.std.proofs.Common.{◌≡◌, ℕ, List, ◌∷◌, ◌++◌, Some, sym, refl, ap, ◌∙◌, subst}
use Rattle.descriptions.specs.declared.Unary.{Unary}
use Rattle.descriptions.specs.declared.Unary.TheVariants.{Converse, Closure, Domain}
use Rattle.descriptions.specs.declared.Binary.{Binary}
use Rattle.descriptions.specs.declared.Binary.TheVariants.{Union, Intersection, Difference, Composition}
use Rattle.descriptions.specs.declared.heads.ExpressionHead.{ExpressionHead}
use Rattle.descriptions.specs.declared.heads.ExpressionHead.TheVariants as head
use Rattle.descriptions.specs.declared.heads.SentenceHead.{SentenceHead}
use Rattle.descriptions.specs.declared.heads.SentenceHead.TheVariants.{Within, Nonempty, Not, Both, ForEvery}
use Rattle.descriptions.specs.Meaning.{Expression, named, thing, identity, empty, unary, binary, Sentence, within, nonempty, negation, both, for_every}
use Rattle.descriptions.specs.Bytes.{unary_byte, binary_byte, write_e, write_s}
use Rattle.descriptions.specs.Heads.{head_of_e, head_of_s}

abbrev pub top_e : Expression → ExpressionHead
top_e (named r) = head.Named r
top_e (thing x) = head.Thing x
top_e identity = head.Identity
top_e empty = head.Empty
top_e (unary o a) = head.Unary o
top_e (binary o a b) = head.Binary o

abbrev pub top_s : Sentence → SentenceHead
top_s (within a b) = Within
top_s (nonempty a) = Nonempty
top_s (negation c) = Not
top_s (both c d) = Both
top_s (for_every c) = ForEvery

-- heads are told apart by their bytes
pub head_of_unary : (o : Unary) (s : List ℕ) → head_of_e (unary_byte o ∷ s) ≡ Some (head.Unary o)
head_of_unary Converse s = refl
head_of_unary Closure s = refl
head_of_unary Domain s = refl

pub head_of_binary : (o : Binary) (s : List ℕ) → head_of_e (binary_byte o ∷ s) ≡ Some (head.Binary o)
head_of_binary Union s = refl
head_of_binary Intersection s = refl
head_of_binary Difference s = refl
head_of_binary Composition s = refl

pub head_of_write_e : (e : Expression) (s : List ℕ) → head_of_e (write_e e ++ s) ≡ Some (top_e e)
head_of_write_e (named r) s = refl
head_of_write_e (thing x) s = refl
head_of_write_e identity s = refl
head_of_write_e empty s = refl
head_of_write_e (unary o a) s = head_of_unary o (write_e a ++ s)
head_of_write_e (binary o a b) s = head_of_binary o ((write_e a ++ write_e b) ++ s)

pub head_of_write_s : (c : Sentence) (s : List ℕ) → head_of_s (write_s c ++ s) ≡ Some (top_s c)
head_of_write_s (within a b) s = refl
head_of_write_s (nonempty a) s = refl
head_of_write_s (negation c) s = refl
head_of_write_s (both c d) s = refl
head_of_write_s (for_every c) s = refl

-- what is made by a head
abbrev pub MadeE : ExpressionHead → Expression → Type 0
MadeE (head.Named r) e = e ≡ named r
MadeE (head.Thing x) e = e ≡ thing x
MadeE head.Identity e = e ≡ identity
MadeE head.Empty e = e ≡ empty
MadeE (head.Unary o) e = (a : Expression) × (e ≡ unary o a)
MadeE (head.Binary o) e = (a : Expression × Expression) × (e ≡ binary o a.0 a.1)

abbrev pub MadeS : SentenceHead → Sentence → Type 0
MadeS Within c = (a : Expression × Expression) × (c ≡ within a.0 a.1)
MadeS Nonempty c = (a : Expression) × (c ≡ nonempty a)
MadeS Not c = (d : Sentence) × (c ≡ negation d)
MadeS Both c = (d : Sentence × Sentence) × (c ≡ both d.0 d.1)
MadeS ForEvery c = (d : Sentence) × (c ≡ for_every d)

made_e : (e : Expression) → MadeE (top_e e) e
made_e (named r) = refl
made_e (thing x) = refl
made_e identity = refl
made_e empty = refl
made_e (unary o a) = (a, refl)
made_e (binary o a b) = ((a, b), refl)

made_s : (c : Sentence) → MadeS (top_s c) c
made_s (within a b) = ((a, b), refl)
made_s (nonempty a) = (a, refl)
made_s (negation c) = (c, refl)
made_s (both c d) = ((c, d), refl)
made_s (for_every c) = (c, refl)

pub some_same : {T : Type 0} (x y : T) → Some x ≡ Some y → x ≡ y
some_same x y e = cc

pub made_by_e : (h : ExpressionHead) (e : Expression) (s u : List ℕ) → u ≡ write_e e ++ s → head_of_e u ≡ Some h → MadeE h e
made_by_e h e s u p q = subst (λ (x : ExpressionHead). MadeE x e) (some_same (top_e e) h (sym (head_of_write_e e s) ∙ ap head_of_e (sym p) ∙ q)) (made_e e)

pub made_by_s : (h : SentenceHead) (c : Sentence) (s u : List ℕ) → u ≡ write_s c ++ s → head_of_s u ≡ Some h → MadeS h c
made_by_s h c s u p q = subst (λ (x : SentenceHead). MadeS x c) (some_same (top_s c) h (sym (head_of_write_s c s) ∙ ap head_of_s (sym p) ∙ q)) (made_s c)

-- Heads: what the writing of an expression or a sentence begins with.
use Rattle.std.specs.Prelude.{◌≡◌, ℕ, ◌+◌, ◌<◌, ◌≤◌, cond, List, [], ◌∷◌, ◌++◌, length, drop, Some, None, Option, Result, MatchResult, ◌==◌, ◌≢◌}
use Rattle.descriptions.specs.declared.Unary.TheVariants.{Converse, Closure, Domain}
use Rattle.descriptions.specs.declared.Binary.TheVariants.{Union, Intersection, Difference, Composition}
use Rattle.descriptions.specs.declared.heads.ExpressionHead.{ExpressionHead}
use Rattle.descriptions.specs.declared.heads.ExpressionHead.TheVariants as head
use Rattle.descriptions.specs.declared.heads.NoSentence.{NoSentence}
use Rattle.descriptions.specs.declared.heads.SentenceHead.{SentenceHead}
use Rattle.descriptions.specs.declared.heads.SentenceHead.TheVariants.{Within, Nonempty, Not, Both, ForEvery}
use Rattle.descriptions.specs.Bytes.{unary_byte, binary_byte}

-- the byte at a place
abbrev pub ByteAt : List ℕ → ℕ → Option ℕ → Type 0
ByteAt s at None = length s ≤ at
ByteAt s at (Some x) = (at < length s) × (drop at s ≡ x ∷ drop (at + 1) s)

-- the bytes of a head
abbrev pub head_e : ExpressionHead → List ℕ
head_e (head.Named r) = 0 ∷ r ∷ []
head_e (head.Thing x) = 1 ∷ x ∷ []
head_e head.Identity = 2 ∷ []
head_e head.Empty = 3 ∷ []
head_e (head.Unary o) = unary_byte o ∷ []
head_e (head.Binary o) = binary_byte o ∷ []

abbrev pub head_s : SentenceHead → ℕ
head_s Within = 20
head_s Nonempty = 21
head_s Not = 22
head_s Both = 23
head_s ForEvery = 24

-- a byte as a sentence's head
abbrev pub SentenceCode : ℕ → Result SentenceHead NoSentence → Type 0
SentenceCode b r = MatchResult r (λ h. b ≡ head_s h) (λ e. (h : SentenceHead) → b ≢ head_s h)

-- the head that bytes begin with
abbrev pub numbered : (ℕ → ExpressionHead) → List ℕ → Option ExpressionHead
numbered f [] = None
numbered f (x ∷ t) = Some (f x)

abbrev pub head_of_e : List ℕ → Option ExpressionHead
head_of_e [] = None
head_of_e (b ∷ t) = cond (b == 0) (numbered head.Named t) (cond (b == 1) (numbered head.Thing t) (cond (b == 2) (Some head.Identity) (cond (b == 3) (Some head.Empty) (cond (b == 4) (Some (head.Binary Union)) (cond (b == 5) (Some (head.Binary Intersection)) (cond (b == 6) (Some (head.Binary Difference)) (cond (b == 7) (Some (head.Binary Composition)) (cond (b == 8) (Some (head.Unary Converse)) (cond (b == 9) (Some (head.Unary Closure)) (cond (b == 10) (Some (head.Unary Domain)) None))))))))))

abbrev pub head_of_s : List ℕ → Option SentenceHead
head_of_s [] = None
head_of_s (b ∷ t) = cond (b == 20) (Some Within) (cond (b == 21) (Some Nonempty) (cond (b == 22) (Some Not) (cond (b == 23) (Some Both) (cond (b == 24) (Some ForEvery) None))))

-- what is read at a place: a head, whose bytes stand there; or None, where the bytes begin with no head
abbrev pub HeadE : List ℕ → ℕ → Option ExpressionHead → Type 0
HeadE s at None = head_of_e (drop at s) ≡ None
HeadE s at (Some h) = (drop at s ≡ head_e h ++ drop (at + length (head_e h)) s) × (at + length (head_e h) ≤ length s)

abbrev pub HeadS : List ℕ → ℕ → Option SentenceHead → Type 0
HeadS s at None = head_of_s (drop at s) ≡ None
HeadS s at (Some h) = (drop at s ≡ head_s h ∷ drop (at + 1) s) × (at + 1 ≤ length s)

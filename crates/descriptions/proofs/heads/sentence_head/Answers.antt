use Rattle.std.proofs.Common.{◌≡◌, ℕ, ◌+◌, ◌<◌, List, ◌∷◌, length, drop, Ok, Err, None, Result, refl, ap, ◌∙◌, arith}
use Rattle.std.specs.Result.{result_ok}
use Rattle.std.proofs.lemmas.Bool.{ne_eqb}
use Rattle.descriptions.specs.declared.heads.NoSentence.{NoSentence}
use Rattle.descriptions.specs.declared.heads.SentenceHead.{SentenceHead}
use Rattle.descriptions.specs.declared.heads.SentenceHead.TheVariants.{Within, Nonempty, Not, Both, ForEvery}
use Rattle.descriptions.specs.Heads.{head_of_s, HeadS, SentenceCode}
use Rattle.descriptions.proofs.heads.sentence_head.Goals as goal

-- a byte that is no head's begins no sentence
no_head : (b : ℕ) (t : List ℕ) (e : NoSentence) → SentenceCode b (Err e) → head_of_s (b ∷ t) ≡ None
no_head b t e f = rw (ne_eqb b 20 (f Within), ne_eqb b 21 (f Nonempty), ne_eqb b 22 (f Not), ne_eqb b 23 (f Both), ne_eqb b 24 (f ForEvery)) refl

head_by_code : (s : List ℕ) (at b : ℕ) (r : Result SentenceHead NoSentence) → drop at s ≡ b ∷ drop (at + 1) s → at < length s → SentenceCode b r → HeadS s at (result_ok r)
head_by_code s at b (Ok h) e lt f = (e ∙ ap (λ (x : ℕ). x ∷ drop (at + 1) s) f, omega (arith, lt))
head_by_code s at b (Err n) e lt f = ap head_of_s e ∙ no_head b (drop (at + 1) s) n f

pub returns : goal.returns
returns c = rw c.ok.ensures.value (head_by_code _ _ _ _ c.in_ok-byte.ensures.1 c.in_ok-byte.ensures.0 c.try_from.ensures)

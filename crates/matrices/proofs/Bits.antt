-- Bits of words: of what the operators on words make, and of a word with one bit set.
use Rattle.std.proofs.Common.{◌≡◌, ℕ, zero, suc, ◌+◌, ◌-◌, ◌*◌, ◌/◌, ◌%◌, ◌^◌, ◌<◌, Bool, true, false, cond, not, ◌&&◌, ◌||◌, eqb, min, max, w64, inl, inr, sym, refl, ap, ◌∙◌, arith}
use Rattle.std.specs.Int.{bit_at, bit_not}
use lib.Bits.{bit_and, bit_or, bit_xor}
use Rattle.std.proofs.lemmas.Nat.{one_shl}
use Rattle.std.proofs.lemmas.Nat.Bits.{bit_at-lt, bit_at-zero, shr_and_one, bit_at_and, bit_at_or, bit_at_xor, bit_at_not, bit_at-pow_same, bit_at-pow_other}
use Rattle.std.proofs.Math.Bool.{and-true, or_comm}
use Rattle.std.proofs.lemmas.Bool.Decides.{eqb_tells}
use Rattle.matrices.specs.Words.{bit}

by_digit : (P : ℕ → Type 0) → P 0 → P 1 → (x : ℕ) → x < 2 → P x
by_digit P p q zero h = p
by_digit P p q (suc zero) h = q
by_digit P p q (suc (suc x)) h = absurd (omega arith)

-- two bits are 0 or 1
by_digits : (P : ℕ → ℕ → Type 0) → P 0 0 → P 0 1 → P 1 0 → P 1 1 → (a b k : ℕ) → P (bit_at a k) (bit_at b k)
by_digits P p q r s a b k = by_digit (λ x. P x (bit_at b k)) (by_digit (P 0) p q _ (bit_at-lt b k)) (by_digit (P 1) r s _ (bit_at-lt b k)) _ (bit_at-lt a k)

abbrev differ : Bool → Bool → Bool
differ true b = not b
differ false b = b

pub bit_of_or : (a b k : ℕ) → bit (bit_or a b) k ≡ (bit a k || bit b k)
unfolding bit
bit_of_or a b k = ap (λ x. eqb x 1) (bit_at_or a b k) ∙ by_digits (λ x y. eqb (max x y) 1 ≡ (eqb x 1 || eqb y 1)) refl refl refl refl a b k

pub bit_of_and : (a b k : ℕ) → bit (bit_and a b) k ≡ (bit a k && bit b k)
unfolding bit
bit_of_and a b k = ap (λ x. eqb x 1) (bit_at_and a b k) ∙ by_digits (λ x y. eqb (min x y) 1 ≡ (eqb x 1 && eqb y 1)) refl refl refl refl a b k

bit_of_xor : (a b k : ℕ) → bit (bit_xor a b) k ≡ differ (bit a k) (bit b k)
unfolding bit
bit_of_xor a b k = ap (λ x. eqb x 1) (bit_at_xor a b k) ∙ by_digits (λ x y. eqb ((x + y) % 2) 1 ≡ differ (eqb x 1) (eqb y 1)) refl refl refl refl a b k

bit_of_not : (a k : ℕ) → a < 2 ^ 64 → k < 64 → bit (bit_not w64 a) k ≡ not (bit a k)
unfolding bit
bit_of_not a k fits h = ap (λ x. eqb x 1) (bit_at_not w64 a k fits h) ∙ by_digit (λ x. eqb (1 - x) 1 ≡ not (eqb x 1)) refl refl _ (bit_at-lt a k)

-- what stands in the one and not in the other
pub bit_but : (a b k : ℕ) → b < 2 ^ 64 → k < 64 → bit (bit_and a (bit_not w64 b)) k ≡ (bit a k && not (bit b k))
bit_but a b k fits h = bit_of_and a (bit_not w64 b) k ∙ ap (λ (x : Bool). bit a k && x) (bit_of_not b k fits h)

pub bit_zero : (k : ℕ) → bit 0 k ≡ false
unfolding bit
bit_zero k = ap (λ (x : ℕ). eqb x 1) (bit_at-zero k)

-- the test of a bit, as the code has it
pub bit_test : (w k : ℕ) → eqb (bit_and (w / 2 ^ k) 1) 1 ≡ bit w k
unfolding bit
bit_test w k = ap (λ (x : ℕ). eqb x 1) (shr_and_one w k)

bit_pow : (k j : ℕ) → bit (2 ^ k) j ≡ eqb j k
unfolding bit
bit_pow k j =
    elim (eqb_tells j k) [
      | inl h ↦ ap (λ (i : ℕ). eqb (bit_at (2 ^ k) i) 1) h.1 ∙ ap (λ x. eqb x 1) (bit_at-pow_same k) ∙ sym h.0
      | inr h ↦ ap (λ x. eqb x 1) (bit_at-pow_other k j h.1) ∙ sym h.0
    ]

-- a bit set, or not
pub bit_put_true : (w p k : ℕ) (b : Bool) → p < 64 → b ≡ true → bit (bit_or w ((1 * 2 ^ p) % 2 ^ 64)) k ≡ ((eqb k p && b) || bit w k)
bit_put_true w p k b h e =
    ap (λ (x : ℕ). bit (bit_or w x) k) (one_shl p 64 h) ∙ bit_of_or w (2 ^ p) k ∙ ap (λ (x : Bool). bit w k || x) (bit_pow p k) ∙ or_comm (bit w k) (eqb k p)
    ∙ ap (λ (x : Bool). x || bit w k) (sym (ap (λ (x : Bool). eqb k p && x) e ∙ and-true (eqb k p)))

differ_cond : (a b : Bool) → differ a b ≡ cond b (not a) a
differ_cond true true = refl
differ_cond true false = refl
differ_cond false true = refl
differ_cond false false = refl

-- a bit changed
pub bit_flip : (w p k : ℕ) → p < 64 → bit (bit_xor w ((1 * 2 ^ p) % 2 ^ 64)) k ≡ cond (eqb k p) (not (bit w k)) (bit w k)
bit_flip w p k h = ap (λ (x : ℕ). bit (bit_xor w x) k) (one_shl p 64 h) ∙ bit_of_xor w (2 ^ p) k ∙ ap (λ (x : Bool). differ (bit w k) x) (bit_pow p k) ∙ differ_cond (bit w k) (eqb k p)

-- The order of pictures of one size is strict and total.
use Rattle.std.proofs.Common.{◌≡◌, ℕ, suc, ◌+◌, ◌^◌, ◌<◌, true, false, cond, ◌⊎◌, [], ◌∷◌, length, get_or, refl, ap, inl, inr, arith}
use native.Mathlib.Nat.{pow-succ'}
use Rattle.descriptions.specs.Pictures.{Picture, Before, at_once, later}
use Rattle.descriptions.specs.Theorems.{StrictOrder}

pub before_differs : {p q : Picture} → Before p q → p ≡ q → ⊥
before_differs at_once e = let z : ◌≡◌ {A = ℕ} 0 1 = cc in omega arith
before_differs (later b) e = before_differs b (cc)

pub before_trans : {p q r : Picture} → Before p q → Before q r → Before p r
before_trans at_once (later k) = at_once
before_trans (later h) at_once = at_once
before_trans (later h) (later k) = later (before_trans h k)

pub before_total : (p q : Picture) → length p ≡ length q → Before p q ⊎ ((p ≡ q) ⊎ Before q p)
before_total [] [] e = inr (inl refl)
before_total [] (b ∷ q) e = absurd (omega arith)
before_total (b ∷ p) [] e = absurd (omega arith)
before_total (false ∷ p) (true ∷ q) e = inl at_once
before_total (true ∷ p) (false ∷ q) e = inr (inr at_once)
before_total (false ∷ p) (false ∷ q) e = elim (before_total p q (omega arith)) [ inl h ↦ inl (later h) | inr (inl h) ↦ inr (inl (ap (λ (x : Picture). false ∷ x) h)) | inr (inr h) ↦ inr (inr (later h)) ]
before_total (true ∷ p) (true ∷ q) e = elim (before_total p q (omega arith)) [ inl h ↦ inl (later h) | inr (inl h) ↦ inr (inl (ap (λ (x : Picture). true ∷ x) h)) | inr (inr h) ↦ inr (inr (later h)) ]

-- all bits 0 is first, all bits 1 last
pub zeros_first : (p : Picture) → ((k : ℕ) → k < length p → get_or p k false ≡ false) → (r : Picture) → Before r p → ⊥
zeros_first [] z r b = elim b [ ]
zeros_first (true ∷ p) z r b = absurd (let e : true ≡ false = z 0 (omega arith) in let n : ◌≡◌ {A = ℕ} 0 1 = cc in omega arith)
zeros_first (false ∷ p) z [] b = elim b [ ]
zeros_first (false ∷ p) z (true ∷ r) b = elim b [ ]
zeros_first (false ∷ p) z (false ∷ r) (later b) = zeros_first p (λ k h. z (suc k) (omega arith)) r b

pub ones_last : (p : Picture) → ((k : ℕ) → k < length p → get_or p k false ≡ true) → (r : Picture) → length r ≡ length p → Before p r → ⊥
ones_last [] o r l b = elim b [ ]
ones_last (false ∷ p) o r l b = absurd (let e : false ≡ true = o 0 (omega arith) in let n : ◌≡◌ {A = ℕ} 0 1 = cc in omega arith)
ones_last (true ∷ p) o [] l b = elim b [ ]
ones_last (true ∷ p) o (false ∷ r) l b = elim b [ ]
ones_last (true ∷ p) o (true ∷ r) l (later b) = ones_last p (λ k h. o (suc k) (omega arith)) r (omega arith) b

-- how many pictures come after
abbrev pub after : Picture → ℕ
after [] = 0
after (b ∷ p) = cond b 0 (2 ^ length p) + after p

after_below : (p : Picture) → after p < 2 ^ length p
after_below [] = omega arith
after_below (true ∷ p) = let a = after_below p in let e = pow-succ' 2 (length p) in omega arith
after_below (false ∷ p) = let a = after_below p in let e = pow-succ' 2 (length p) in omega arith

pub after_falls : {p q : Picture} → Before p q → length p ≡ length q → after q < after p
after_falls (at_once {p = p} {q = q}) l = let a = after_below q in let e : 2 ^ length q ≡ 2 ^ length p = ap (λ (x : ℕ). 2 ^ x) (omega arith) in omega arith
after_falls (later {b = true} {p = p} {q = q} b) l = let a = after_falls b (omega arith) in omega arith
after_falls (later {b = false} {p = p} {q = q} b) l = let a = after_falls b (omega arith) in let e : 2 ^ length q ≡ 2 ^ length p = ap (λ (x : ℕ). 2 ^ x) (omega arith) in omega arith

pub strict_order : StrictOrder
strict_order = record { irreflexive = λ p b. before_differs b refl; transitive = λ p q r b c. before_trans b c; total = before_total }

-- Bit by bit to the first.
use Rattle.std.proofs.Common.{◌≡◌, ℕ, zero, suc, ◌+◌, ◌<◌, ◌≤◌, Bool, true, false, ◌⊎◌, [], ◌∷◌, length, take, sym, refl, ap, ◌∙◌, subst, inl, inr, add-one, arith}
use Rattle.std.proofs.lemmas.List.{take_all}
use Rattle.std.proofs.lemmas.Bool.{both_ways}
use Rattle.descriptions.specs.Pictures.{Picture, Before, at_once, later}
use Rattle.firsts.specs.Orders.{FirstWith}
use Rattle.firsts.specs.Leaders.{bit_of}
use Rattle.firsts.specs.Descents.{Same, NoneLow, Fixed, Settles, Asked}

-- pictures that begin alike up to a place and with it
take_less : (k : ℕ) (p q : Picture) → take (suc k) p ≡ take (suc k) q → take k p ≡ take k q
take_less zero p q e = refl
take_less (suc k) [] [] e = refl
take_less (suc k) [] (y ∷ q) e = cc
take_less (suc k) (x ∷ p) [] e = cc
take_less (suc k) (x ∷ p) (y ∷ q) e = let a : x ≡ y = cc in let b = take_less k p q (cc) in rw (a, b) refl

take_bit : (k : ℕ) (p q : Picture) → k < length p → k < length q → take (suc k) p ≡ take (suc k) q → bit_of p k ≡ bit_of q k
take_bit k [] q h l e = absurd (omega arith)
take_bit k (x ∷ p) [] h l e = absurd (omega arith)
take_bit zero (x ∷ p) (y ∷ q) h l e = cc
take_bit (suc k) (x ∷ p) (y ∷ q) h l e = take_bit k p q (omega arith) (omega arith) (cc)

take_more : (k : ℕ) (p q : Picture) → k < length p → k < length q → take k p ≡ take k q → bit_of p k ≡ bit_of q k → take (suc k) p ≡ take (suc k) q
take_more k [] q h l e f = absurd (omega arith)
take_more k (x ∷ p) [] h l e f = absurd (omega arith)
take_more zero (x ∷ p) (y ∷ q) h l e f = ap (λ (b : Bool). b ∷ []) f
take_more (suc k) (x ∷ p) (y ∷ q) h l e f = let a : x ≡ y = cc in let b = take_more k p q (omega arith) (omega arith) (cc) f in rw (a, b) refl

-- with one bit more, the order was settled before it, or this bit settles it
before_more : (k : ℕ) (q p : Picture) → k < length q → k < length p → Before (take (suc k) q) (take (suc k) p) → Before (take k q) (take k p) ⊎ ((take k q ≡ take k p) × (bit_of q k ≡ false) × (bit_of p k ≡ true))
before_more k [] p h l b = absurd (omega arith)
before_more k (x ∷ q) [] h l b = absurd (omega arith)
before_more zero (x ∷ q) (y ∷ p) h l at_once = inr (refl, refl, refl)
before_more zero (x ∷ q) (y ∷ p) h l (later b) = elim b [ ]
before_more (suc k) (x ∷ q) (y ∷ p) h l at_once = inl at_once
before_more (suc k) (x ∷ q) (y ∷ p) h l (later b) =
    elim (before_more k q p (omega arith) (omega arith) b)
    [ inl c ↦ inl (later c) | inr c ↦ inr (ap (λ (r : Picture). x ∷ r) c.0, c.1, c.2) ]

-- at the start, no bit is settled
pub settles_none : (Has Now : Picture → Type 0) (n : ℕ) (p : Picture) → length p ≡ n → Has p → Same n Now Has → Settles Has Now n 0 p
settles_none Has Now n p long has same = record { long = long; it_has = has; none_lower = λ q l b. elim b [ ]; narrowed = λ q l. (λ x. ((same q l).0 x, refl), λ x. (same q l).1 x.0) }

module _ (Has Now : Picture → Type 0) (n at : ℕ) where
  -- what comes into question may be said otherwise
  pub settles_same : (Next : Picture → Type 0) (p : Picture) → Same n Next Now → Settles Has Now n at p → Settles Has Next n at p
  settles_same Next p same s = record { long = s.long; it_has = s.it_has; none_lower = s.none_lower; narrowed = λ q l. (λ x. (s.narrowed q l).0 ((same q l).0 x), λ x. (same q l).1 ((s.narrowed q l).1 x)) }

  -- another picture that comes into question may be held in its place
  pub settles_other : (p p' : Picture) → length p' ≡ n → Now p' → Settles Has Now n at p → Settles Has Now n at p'
  settles_other p p' long now s =
      let u : Has p' × (take at p' ≡ take at p) = (s.narrowed p' long).0 now in
      record {
        long = long;
        it_has = u.0;
        none_lower = λ q l b. s.none_lower q l (subst (λ (r : Picture). Before (take at q) r) u.1 b);
        narrowed = λ q l. (λ x. let v = (s.narrowed q l).0 x in (v.0, v.1 ∙ sym u.1), λ x. (s.narrowed q l).1 (x.0, x.1 ∙ u.1));
      }

  module _ (Next : Picture → Type 0) (within : at < n) where
    -- a bit is settled if it is 0, or none that comes into question has 0 there
    settled : (p : Picture) (b : Bool) → bit_of p at ≡ b → (b ≡ true → NoneLow Now n at) → Fixed Now n at b Next → Settles Has Now n at p → Settles Has Next n (suc at) p
    settled p b bit low fixed s = record { long = s.long; it_has = s.it_has; none_lower = lower; narrowed = λ q l. (out q l, back q l) }
      where
        inside : at < length p
        inside = let l = s.long in omega arith

        lower : (q : Picture) → length q ≡ n → Before (take (suc at) q) (take (suc at) p) → Has q → ⊥
        lower q l x has =
            elim (before_more at q p (omega arith) inside x)
            [ inl y ↦ s.none_lower q l y has | inr y ↦ low (sym bit ∙ y.2) q l y.1 ((s.narrowed q l).1 (has, y.0)) ]

        out : (q : Picture) → length q ≡ n → Next q → Has q × (take (suc at) q ≡ take (suc at) p)
        out q l x = let f = (fixed q l).0 x in let u = (s.narrowed q l).0 f.0 in (u.0, take_more at q p (omega arith) inside u.1 (f.1 ∙ sym bit))

        back : (q : Picture) → length q ≡ n → Has q × (take (suc at) q ≡ take (suc at) p) → Next q
        back q l x = (fixed q l).1 ((s.narrowed q l).1 (x.0, take_less at q p x.1), take_bit at q p (omega arith) inside x.1 ∙ bit)

    -- the picture held has 0 at the place
    pub settles_zero : (p : Picture) → bit_of p at ≡ false → Fixed Now n at false Next → Settles Has Now n at p → Settles Has Next n (at + 1) p
    settles_zero p bit fixed s = rw add-one (settled p false bit (λ e. absurd (both_ways true (sym e) refl)) fixed s)

    -- a lower one was found
    pub settles_lower : (p p' : Picture) → length p' ≡ n → Now p' → bit_of p' at ≡ false → Fixed Now n at false Next → Settles Has Now n at p → Settles Has Next n (at + 1) p'
    settles_lower p p' long now bit fixed s = settles_zero p' bit fixed (settles_other p p' long now s)

    -- there is no lower one
    pub settles_one : (p : Picture) → bit_of p at ≡ true → NoneLow Now n at → Fixed Now n at true Next → Settles Has Now n at p → Settles Has Next n (at + 1) p
    settles_one p bit low fixed s = rw add-one (settled p true bit (λ e. low) fixed s)

  -- at the end, all bits are settled
  pub settles_all : (p : Picture) → n ≤ at → Settles Has Now n at p → FirstWith n Has p
  settles_all p h s = record { long = s.long; it_has = s.it_has; none_before = before }
    where
      before : (q : Picture) → length q ≡ n → Before q p → Has q → ⊥
      before q l b =
          let long = s.long in
          let e : take at q ≡ q = take_all at q (omega arith) in
          let f : take at p ≡ p = take_all at p (omega arith) in
          s.none_lower q l (subst (λ (r : Picture). Before (take at q) r) (sym f) (subst (λ (r : Picture). Before r p) (sym e) b))

-- the first of a property is that of the same property said otherwise
pub first_same : (P Q : Picture → Type 0) (n : ℕ) (p : Picture) → Same n P Q → FirstWith n P p → FirstWith n Q p
first_same P Q n p same f = record { long = f.long; it_has = (same p f.long).0 f.it_has; none_before = λ q l b x. f.none_before q l b ((same q l).1 x) }

-- one question for the start, none for the first place, one at most for each later one: as many as bits
pub asked_once : Asked 0 1
asked_once = omega arith

pub asked_none : (at times : ℕ) → Asked at times → Asked (at + 1) times
asked_none at times h = omega arith

pub asked_more : (at times : ℕ) → 0 < at → Asked at times → Asked (at + 1) (times + 1)
asked_more at times h k = omega arith

pub asked_all : (n times : ℕ) → 0 < n → Asked n times → times ≤ n
asked_all n times h k = omega arith

-- The next picture in order.
use Rattle.std.proofs.Common.{◌≡◌, ℕ, zero, suc, ◌<◌, Bool, true, false, ◌⊎◌, [], ◌∷◌, length, get_or, ap, inl, inr, arith}
use Rattle.descriptions.specs.Pictures.{Picture, Before, at_once, later}
use Rattle.descriptions.proofs.Order.{before_total, zeros_first, ones_last}
use Rattle.exhaustive.specs.Trying.{Next, Last}

-- a 0 with only ones behind it becomes a 1 with zeros behind it
pub record Raised (p q : Picture) (at : ℕ) : Type 0 where
  pub long : length q ≡ length p
  pub within : at < length p
  pub same : (k : ℕ) → k < at → get_or q k false ≡ get_or p k false
  pub was : get_or p at false ≡ false
  pub is : get_or q at false ≡ true
  pub ones : (k : ℕ) → at < k → k < length p → get_or p k false ≡ true
  pub zeros : (k : ℕ) → at < k → k < length p → get_or q k false ≡ false

raised_here : (p q : Picture) → length q ≡ length p → Last p → ((r : Picture) → Before r q → ⊥) → Next (false ∷ p) (true ∷ q)
raised_here p q l last none = record { after = at_once; nothing_between = go }
  where
    go : (r : Picture) → length r ≡ suc (length p) → Before r (true ∷ q) → Before r (false ∷ p) ⊎ (r ≡ false ∷ p)
    go [] h b = elim b [ ]
    go (true ∷ r) h (later b) = absurd (none r b)
    go (false ∷ r) h b = elim (before_total r p (omega arith)) [ inl x ↦ inl (later x) | inr (inl x) ↦ inr (ap (λ (y : Picture). false ∷ y) x) | inr (inr x) ↦ absurd (last r (omega arith) x) ]

next_later : (c : Bool) (p q : Picture) → Next p q → Next (c ∷ p) (c ∷ q)
next_later c p q n = record { after = later n.after; nothing_between = go c }
  where
    go : (c : Bool) (r : Picture) → length r ≡ suc (length p) → Before r (c ∷ q) → Before r (c ∷ p) ⊎ (r ≡ c ∷ p)
    go c [] h b = elim b [ ]
    go true (false ∷ r) h b = inl at_once
    go true (true ∷ r) h (later b) = elim (n.nothing_between r (omega arith) b) [ inl x ↦ inl (later x) | inr x ↦ inr (ap (λ (y : Picture). true ∷ y) x) ]
    go false (true ∷ r) h b = elim b [ ]
    go false (false ∷ r) h (later b) = elim (n.nothing_between r (omega arith) b) [ inl x ↦ inl (later x) | inr x ↦ inr (ap (λ (y : Picture). false ∷ y) x) ]

pub raised_next : (p q : Picture) (at : ℕ) → Raised p q at → Next p q
raised_next [] q at r = absurd (let h = r.within in omega arith)
raised_next (x ∷ p) [] at r = absurd (let h = r.long in omega arith)
raised_next (x ∷ p) (y ∷ q) zero r =
    let e : x ≡ false = r.was in
    let f : y ≡ true = r.is in
    let l = r.long in
    rw (e, f) (raised_here p q (omega arith)
    (ones_last p (λ k h. r.ones (suc k) (omega arith) (omega arith)))
    (zeros_first q (λ k h. r.zeros (suc k) (omega arith) (omega arith))))
raised_next (x ∷ p) (y ∷ q) (suc at) r =
    let e : y ≡ x = r.same 0 (omega arith) in
    let l = r.long in let w = r.within in
    rw e (next_later x p q (raised_next p q at (record {
      long = omega arith;
      within = omega arith;
      same = λ k h. r.same (suc k) (omega arith);
      was = r.was;
      is = r.is;
      ones = λ k h g. r.ones (suc k) (omega arith) (omega arith);
      zeros = λ k h g. r.zeros (suc k) (omega arith) (omega arith);
    })))

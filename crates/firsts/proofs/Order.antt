-- The order is decided, and where some picture has a property, one is the first.
use Rattle.std.proofs.Common.{◌≡◌, ℕ, zero, suc, Bool, true, false, ◌⊎◌, [], ◌∷◌, length, refl, ap, inl, inr, arith}
use Rattle.std.proofs.lemmas.Bool.{false≢true}
use Rattle.descriptions.specs.Pictures.{Picture, Before, at_once, later}
use Rattle.firsts.specs.Orders.{before, OrderDecided, NoneHas, FirstHas, FirstThere}

pub before_true : {p q : Picture} → Before p q → before p q ≡ true
before_true at_once = refl
before_true (later {b = true} h) = before_true h
before_true (later {b = false} h) = before_true h

pub true_before : (p q : Picture) → before p q ≡ true → Before p q
true_before [] q e = absurd (false≢true e)
true_before (b ∷ p) [] e = absurd (false≢true e)
true_before (false ∷ p) (false ∷ q) e = later (true_before p q e)
true_before (false ∷ p) (true ∷ q) e = at_once
true_before (true ∷ p) (false ∷ q) e = absurd (false≢true e)
true_before (true ∷ p) (true ∷ q) e = later (true_before p q e)

pub order_decided : OrderDecided
order_decided p q = (before_true, true_before p q)

-- a property of the bits after the first one
abbrev rest : (Picture → Bool) → Bool → Picture → Bool
rest has b p = has (b ∷ p)

first_zero : (n : ℕ) (has : Picture → Bool) (p : Picture) → FirstHas n (rest has false) p → FirstHas (suc n) has (false ∷ p)
first_zero n has p f = record { long = ap suc f.long; it_has = f.it_has; none_before = go }
  where
    go : (q : Picture) → length q ≡ suc n → Before q (false ∷ p) → has q ≡ false
    go [] l h = elim h [ ]
    go (true ∷ q) l h = elim h [ ]
    go (false ∷ q) l (later h) = f.none_before q (omega arith) h

first_one : (n : ℕ) (has : Picture → Bool) (p : Picture) → NoneHas n (rest has false) → FirstHas n (rest has true) p → FirstHas (suc n) has (true ∷ p)
first_one n has p none f = record { long = ap suc f.long; it_has = f.it_has; none_before = go }
  where
    go : (q : Picture) → length q ≡ suc n → Before q (true ∷ p) → has q ≡ false
    go [] l h = elim h [ ]
    go (false ∷ q) l at_once = none q (omega arith)
    go (true ∷ q) l (later h) = f.none_before q (omega arith) h

none_more : (n : ℕ) (has : Picture → Bool) → NoneHas n (rest has false) → NoneHas n (rest has true) → NoneHas (suc n) has
none_more n has a b [] l = absurd (omega arith)
none_more n has a b (false ∷ q) l = a q (omega arith)
none_more n has a b (true ∷ q) l = b q (omega arith)

none_empty : (has : Picture → Bool) → has [] ≡ false → NoneHas 0 has
none_empty has e [] l = e
none_empty has e (b ∷ q) l = absurd (omega arith)

pub first_there : FirstThere
first_there zero has = go (has []) refl
  where
    nothing_before : (q : Picture) → length q ≡ 0 → Before q [] → has q ≡ false
    nothing_before q l h = elim h [ ]

    go : (b : Bool) → has [] ≡ b → NoneHas 0 has ⊎ ((p : Picture) × FirstHas 0 has p)
    go true e = inr ([], record { long = refl; it_has = e; none_before = nothing_before })
    go false e = inl (none_empty has e)
first_there (suc n) has = go (first_there n (rest has false)) (first_there n (rest has true))
  where
    go : NoneHas n (rest has false) ⊎ ((p : Picture) × FirstHas n (rest has false) p) → NoneHas n (rest has true) ⊎ ((p : Picture) × FirstHas n (rest has true) p) → NoneHas (suc n) has ⊎ ((p : Picture) × FirstHas (suc n) has p)
    go (inr f) x = inr (false ∷ f.0, first_zero n has f.0 f.1)
    go (inl a) (inr f) = inr (true ∷ f.0, first_one n has f.0 a f.1)
    go (inl a) (inl b) = inl (none_more n has a b)

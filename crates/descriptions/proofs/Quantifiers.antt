-- Some thing below m, and every one.
use Rattle.std.proofs.Common.{◌≡◌, ℕ, zero, suc, ◌+◌, ◌<◌, Bool, true, false, not, ◌&&◌, ◌||◌, ◌⊎◌, sym, refl, ap, ◌∙◌, inl, inr, add-one, arith}
use Rattle.std.proofs.lemmas.Bool.{cases_order, both_ways, and_left, and_right, or_left, or_right}
use Rattle.std.proofs.Math.Bool.{or_assoc, or_comm}
use Rattle.std.specs.List.{list_any, range_with_len}
use Rattle.descriptions.specs.Pictures.{Relation, any, every, compose, reach}

pub same_truth : (a b : Bool) → (a ≡ true → b ≡ true) → (b ≡ true → a ≡ true) → a ≡ b
same_truth true b f g = sym (f refl)
same_truth false true f g = g refl
same_truth false false f g = refl

pub below_suc : (k m : ℕ) → k < suc m → (k < m) ⊎ (k ≡ m)
below_suc k m h = elim (cases_order k m) [ inl e ↦ inr e | inr (inl l) ↦ inl l | inr (inr g) ↦ absurd (omega arith) ]

pub any_more : (m : ℕ) (f : ℕ → Bool) → any m f ≡ false → f m ≡ false → any (m + 1) f ≡ false
any_more m f p q = rw (add-one, q) p

pub any_at : (m k : ℕ) (f : ℕ → Bool) → k < m → f k ≡ true → any m f ≡ true
any_at zero k f h t = absurd (omega arith)
any_at (suc m) k f h t = go (below_suc k m h) (any_at m k f)
  where
    go : (k < m) ⊎ (k ≡ m) → (k < m → f k ≡ true → any m f ≡ true) → (f m || any m f) ≡ true
    go (inl x) ih = or_right (f m) (any m f) (ih x t)
    go (inr x) ih = or_left (f m) (any m f) (ap f (sym x) ∙ t)

pub any_some : (m : ℕ) (f : ℕ → Bool) → any m f ≡ true → (k : ℕ) × (k < m) × (f k ≡ true)
any_some zero f e = absurd (both_ways true (sym e) refl)
any_some (suc m) f e = go (f m) refl (any_some m f)
  where
    go : (b : Bool) → f m ≡ b → (any m f ≡ true → (k : ℕ) × (k < m) × (f k ≡ true)) → (k : ℕ) × (k < suc m) × (f k ≡ true)
    go true q ih = (m, omega arith, q)
    go false q ih = let r = ih (rw q at e) in (r.0, omega (arith, r.1), r.2)

pub any_cong : (m : ℕ) (f g : ℕ → Bool) → ((k : ℕ) → k < m → f k ≡ g k) → any m f ≡ any m g
any_cong zero f g h = refl
any_cong (suc m) f g h = let e = h m (omega arith) in let ih = any_cong m f g (λ k l. h k (omega arith)) in rw (e, ih) refl

any_first : (m : ℕ) (f : ℕ → Bool) → any (suc m) f ≡ (f 0 || any m (λ k. f (k + 1)))
any_first zero f = refl
any_first (suc m) f = ap (λ (b : Bool). f (suc m) || b) (any_first m f) ∙ sym (or_assoc (f (suc m)) (f 0) _) ∙ ap (λ (b : Bool). b || any m (λ k. f (k + 1))) (or_comm (f (suc m)) (f 0)) ∙ or_assoc (f 0) (f (suc m)) _ ∙ ap (λ (x : ℕ). f 0 || (f x || any m (λ k. f (k + 1)))) (sym (add-one m))

-- some number of a list of them in a row
any_listed_from : (a m : ℕ) (f : ℕ → Bool) → list_any f (range_with_len a m) ≡ any m (λ k. f (a + k))
any_listed_from a zero f = refl
any_listed_from a (suc m) f =
    let e : f a ≡ f (a + 0) = ap f (omega arith) in
    ap (λ (b : Bool). b || list_any f (range_with_len (a + 1) m)) e
    ∙ ap (λ (b : Bool). f (a + 0) || b) (any_listed_from (a + 1) m f ∙ any_cong m _ _ (λ k l. ap f (omega arith)))
    ∙ sym (any_first m (λ k. f (a + k)))

pub any_listed : (m : ℕ) (f : ℕ → Bool) → list_any f (range_with_len 0 m) ≡ any m f
any_listed m f = any_listed_from 0 m f ∙ any_cong m _ _ (λ k l. ap f (omega arith))

pub every_more : (m : ℕ) (f : ℕ → Bool) → every m f ≡ true → f m ≡ true → every (m + 1) f ≡ true
every_more m f p q = rw (add-one, q) p

pub every_at : (m k : ℕ) (f : ℕ → Bool) → k < m → f k ≡ false → every m f ≡ false
every_at zero k f h t = absurd (omega arith)
every_at (suc m) k f h t = go (below_suc k m h) (every_at m k f)
  where
    go : (k < m) ⊎ (k ≡ m) → (k < m → f k ≡ false → every m f ≡ false) → (f m && every m f) ≡ false
    go (inl x) ih = and_right (f m) (every m f) (ih x t)
    go (inr x) ih = and_left (f m) (every m f) (ap f (sym x) ∙ t)

pub every_cong : (m : ℕ) (f g : ℕ → Bool) → ((k : ℕ) → k < m → f k ≡ g k) → every m f ≡ every m g
every_cong zero f g h = refl
every_cong (suc m) f g h = let e = h m (omega arith) in let ih = every_cong m f g (λ k l. h k (omega arith)) in rw (e, ih) refl

not_or : (a b x y : Bool) → a ≡ not x → not y ≡ b → not (x || y) ≡ (a && b)
not_or a b true y p q = sym (rw p refl)
not_or a b false y p q = sym (rw p (sym q))

-- every one has f where none has g, its opposite
pub not_any : (m : ℕ) (f g : ℕ → Bool) → ((k : ℕ) → f k ≡ not (g k)) → not (any m g) ≡ every m f
not_any zero f g h = refl
not_any (suc m) f g h = not_or (f m) (every m f) (g m) (any m g) (h m) (not_any m f g h)

-- relations that agree on the things below m
abbrev pub Agree : ℕ → Relation → Relation → Type 0
Agree m r s = (i j : ℕ) → i < m → j < m → r i j ≡ s i j

pub compose_cong : (m : ℕ) (r s r' s' : Relation) → Agree m r r' → Agree m s s' → Agree m (compose m r s) (compose m r' s')
compose_cong m r s r' s' p q i j hi hj = any_cong m _ _ (λ k l. let a = p i k hi l in let b = q k j l hj in rw (a, b) refl)

pub reach_cong : (m k : ℕ) (r s : Relation) → Agree m r s → Agree m (reach m k r) (reach m k s)
reach_cong m zero r s p i j hi hj = p i j hi hj
reach_cong m (suc k) r s p i j hi hj =
    let a = p i j hi hj in
    let b = compose_cong m r (reach m k r) s (reach m k s) p (reach_cong m k r s p) i j hi hj in
    rw (a, b) refl

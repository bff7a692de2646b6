-- Once or more often, by way of one thing after the other.
use Rattle.std.proofs.Common.{◌≡◌, ℕ, zero, suc, ◌+◌, ◌<◌, ◌≤◌, Bool, true, false, cond, not, ◌&&◌, ◌||◌, eqb, ◌⊎◌, sym, refl, ap, ◌∙◌, subst, inl, inr, arith, eq-eqb, ne_eqb}
use Rattle.std.proofs.lemmas.Bool.{cases_lt, cases_eq, cases_Bool, and_parts, and_from, or_cases, or_left, or_right}
use Rattle.descriptions.specs.Pictures.{Relation, reach}
use Rattle.descriptions.proofs.Quantifiers.{same_truth, any_some, any_at}

-- steps by way of things below k only
abbrev pub via : ℕ → Relation → Relation
via zero r i j = r i j
via (suc k) r i j = via k r i j || (via k r i k && via k r k j)

-- what is reached by way of things below k, one of them between, is reached
via_here : (k : ℕ) (r : Relation) (i j : ℕ) → via k r i j ≡ true → via (suc k) r i j ≡ true
via_here k r i j e = or_left (via k r i j) _ e

via_through : (k : ℕ) (r : Relation) (i j : ℕ) → via k r i k ≡ true → via k r k j ≡ true → via (suc k) r i j ≡ true
via_through k r i j p q = or_right (via k r i j) _ (and_from (via k r i k) (via k r k j) p q)

abbrev Cases : ℕ → Relation → ℕ → ℕ → Type 0
Cases k r i j = (via k r i j ≡ true) ⊎ ((via k r i k ≡ true) × (via k r k j ≡ true))

via_cases : (k : ℕ) (r : Relation) (i j : ℕ) → via (suc k) r i j ≡ true → Cases k r i j
via_cases k r i j e = elim (or_cases (via k r i j) _ e) [ inl h ↦ inl h | inr h ↦ inr (and_parts (via k r i k) (via k r k j) h) ]

to_last : (k : ℕ) (r : Relation) (i : ℕ) → Cases k r i k → via k r i k ≡ true
to_last k r i (inl h) = h
to_last k r i (inr h) = h.0

from_last : (k : ℕ) (r : Relation) (j : ℕ) → Cases k r k j → via k r k j ≡ true
from_last k r j (inl h) = h
from_last k r j (inr h) = h.1

via_joins : (n : ℕ) (r : Relation) (i j k : ℕ) → k < n → via n r i k ≡ true → via n r k j ≡ true → via n r i j ≡ true
via_joins zero r i j k h p q = absurd (omega arith)
via_joins (suc n) r i j k h p q = elim (cases_lt k n) [ inl l ↦ go (λ a b. via_joins n r a b k l) (via_cases n r i k p) (via_cases n r k j q) | inr l ↦ let e : k ≡ n = omega arith in last (subst (λ (z : ℕ). via (suc n) r i z ≡ true) e p) (subst (λ (z : ℕ). via (suc n) r z j ≡ true) e q) ]
  where
    last : via (suc n) r i n ≡ true → via (suc n) r n j ≡ true → via (suc n) r i j ≡ true
    last a b = via_through n r i j (to_last n r i (via_cases n r i n a)) (from_last n r j (via_cases n r n j b))

    go : ((a b : ℕ) → via n r a k ≡ true → via n r k b ≡ true → via n r a b ≡ true) → Cases n r i k → Cases n r k j → via (suc n) r i j ≡ true
    go ih (inl a) (inl b) = via_here n r i j (ih i j a b)
    go ih (inl a) (inr b) = via_through n r i j (ih i n a b.0) b.1
    go ih (inr a) (inl b) = via_through n r i j a.0 (ih n j a.1 b)
    go ih (inr a) (inr b) = via_through n r i j a.0 b.1

via_one : (n : ℕ) (r : Relation) (i j : ℕ) → r i j ≡ true → via n r i j ≡ true
via_one zero r i j e = e
via_one (suc n) r i j e = via_here n r i j (via_one n r i j e)

pub reach_via : (m n : ℕ) (r : Relation) (i j : ℕ) → reach m n r i j ≡ true → via m r i j ≡ true
reach_via m zero r i j e = via_one m r i j e
reach_via m (suc n) r i j e = elim (or_cases (r i j) _ e) [ inl h ↦ via_one m r i j h | inr h ↦ let w = any_some m _ h in let q = and_parts (r i w.0) (reach m n r w.0 j) w.2 in via_joins m r i j w.0 w.1 (via_one m r i w.0 q.0) (reach_via m n r w.0 j q.1) ]

-- walks by way of things below m that pass a test
data Walk (m : ℕ) (r : Relation) (s : ℕ → Bool) : ℕ → ℕ → Type 0 where
  step : {i j : ℕ} → r i j ≡ true → Walk m r s i j
  on : {i j : ℕ} (k : ℕ) → k < m → s k ≡ true → r i k ≡ true → Walk m r s k j → Walk m r s i j

joined : {m : ℕ} {r : Relation} {s : ℕ → Bool} {i j : ℕ} (k : ℕ) → k < m → s k ≡ true → Walk m r s i k → Walk m r s k j → Walk m r s i j
joined k l t (step e) w = on k l t e w
joined k l t (on k' l' t' e v) w = on k' l' t' e (joined k l t v w)

via_walk : (m n : ℕ) (r : Relation) (i j : ℕ) → n ≤ m → via n r i j ≡ true → Walk m r (λ _. true) i j
via_walk m zero r i j h e = step e
via_walk m (suc n) r i j h e = elim (via_cases n r i j e) [ inl a ↦ via_walk m n r i j (omega arith) a | inr a ↦ joined n (omega arith) refl (via_walk m n r i n (omega arith) a.0) (via_walk m n r n j (omega arith) a.1) ]

-- the test less one thing
less : (ℕ → Bool) → ℕ → ℕ → Bool
less s v k = not (eqb k v) && s k

less_of : (s : ℕ → Bool) (v k : ℕ) → (k ≡ v → ⊥) → s k ≡ true → less s v k ≡ true
unfolding less
less_of s v k ne t = rw (ne_eqb k v ne) t

less_other : (s : ℕ → Bool) (v k : ℕ) → (k ≡ v → ⊥) → less s v k ≡ s k
unfolding less
less_other s v k ne = rw (ne_eqb k v ne) refl

less_here : (s : ℕ → Bool) (v : ℕ) → less s v v ≡ false
unfolding less
less_here s v = rw (eq-eqb v v refl) refl

-- after the last visit of v it's not met again
split : {m : ℕ} {r : Relation} {s : ℕ → Bool} {i j : ℕ} (v : ℕ) → Walk m r s i j → Walk m r (less s v) i j ⊎ Walk m r (less s v) v j
split v (step e) = inl (step e)
split {m} {r} {s} {i} {j} v (on k l t e w) = go (split v w) (cases_eq k v)
  where
    go : Walk m r (less s v) k j ⊎ Walk m r (less s v) v j → (k ≡ v) ⊎ (k ≡ v → ⊥) → Walk m r (less s v) i j ⊎ Walk m r (less s v) v j
    go (inr u) q = inr u
    go (inl u) (inl q) = inr (subst (λ (z : ℕ). Walk m r (less s v) z j) q u)
    go (inl u) (inr q) = inl (on k l (less_of s v k q t) e u)

-- how many things below m pass
tally : ℕ → (ℕ → Bool) → ℕ
tally zero s = 0
tally (suc m) s = cond (s m) 1 0 + tally m s

tally_alike : (m : ℕ) (s t : ℕ → Bool) → ((k : ℕ) → k < m → s k ≡ t k) → tally m s ≡ tally m t
unfolding tally
tally_alike zero s t h = refl
tally_alike (suc m) s t h = let a = h m (omega arith) in let b = tally_alike m s t (λ k l. h k (omega arith)) in rw (a, b) refl

tally_less : (m : ℕ) (s : ℕ → Bool) (v : ℕ) → v < m → s v ≡ true → tally m s ≡ suc (tally m (less s v))
unfolding tally
tally_less zero s v h t = absurd (omega arith)
tally_less (suc m) s v h t = go (λ l. tally_less m s v l t) (cases_lt v m)
  where
    go : (v < m → tally m s ≡ suc (tally m (less s v))) → (v < m) ⊎ (m ≤ v) → cond (s m) 1 0 + tally m s ≡ suc (cond (less s v m) 1 0 + tally m (less s v))
    go ih (inl l) = let a = less_other s v m (omega arith) in let b = ih l in rw (a, b) (omega arith)
    go ih (inr l) =
        let e : v ≡ m = omega arith in
        let a : s m ≡ true = ap s (sym e) ∙ t in
        let b : less s v m ≡ false = subst (λ (z : ℕ). less s v z ≡ false) e (less_here s v) in
        let c = tally_alike m (less s v) s (λ k d. less_other s v k (omega arith)) in
        rw (a, b, c) (omega arith)

tally_most : (m : ℕ) (s : ℕ → Bool) → tally m s ≤ m
unfolding tally
tally_most zero s = omega arith
tally_most (suc m) s = elim (cases_Bool (s m)) [ inl e ↦ rw e (omega (arith, tally_most m s)) | inr e ↦ rw e (omega (arith, tally_most m s)) ]

-- a walk need not be longer than the things that it may pass
walk_reach : (m n : ℕ) (r : Relation) (s : ℕ → Bool) (i j : ℕ) → tally m s ≤ n → Walk m r s i j → reach m n r i j ≡ true
walk_reach m zero r s i j h (step e) = e
walk_reach m (suc n) r s i j h (step e) = or_left (r i j) _ e
walk_reach m zero r s i j h (on k l t e w) = absurd (omega (arith, tally_less m s k l t))
walk_reach m (suc n) r s i j h (on k l t e w) =
    let u : Walk m r (less s k) k j = elim (split k w) [ inl x ↦ x | inr x ↦ x ] in
    or_right (r i j) _ (any_at m k _ l (and_from (r i k) _ e (walk_reach m n r (less s k) k j (omega (arith, tally_less m s k l t)) u)))

pub via_reach : (m : ℕ) (r : Relation) (i j : ℕ) → via m r i j ≡ reach m m r i j
via_reach m r i j = same_truth _ _ (λ e. walk_reach m m r (λ _. true) i j (tally_most m _) (via_walk m m r i j (omega arith) e)) (reach_via m m r i j)

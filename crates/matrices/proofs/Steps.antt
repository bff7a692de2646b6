-- Once or more often, step by step, until nothing is new.
use Rattle.std.proofs.Common.{◌≡◌, ℕ, zero, suc, ◌+◌, ◌<◌, ◌≤◌, Bool, ◌||◌, ◌⊎◌, sym, refl, ap, ◌∙◌, inl, inr, add-one, arith}
use Rattle.descriptions.specs.Pictures.{Relation, compose, reach}
use Rattle.descriptions.proofs.Quantifiers.{Agree, compose_cong, below_suc}
use Rattle.matrices.specs.Words.{matrix, Shows}

reach_suc : (m k : ℕ) (r s : Relation) → Agree m s (reach m k r) → (i j : ℕ) → i < m → j < m → (r i j || compose m r s i j) ≡ reach m (suc k) r i j
reach_suc m k r s p i j hi hj = ap (λ (b : Bool). r i j || b) (compose_cong m r s r (reach m k r) (λ a b _ _. refl) p i j hi hj)

-- once a step adds nothing, no later one does
stable : (m k : ℕ) (r : Relation) → Agree m (reach m (suc k) r) (reach m k r) → (n : ℕ) → k ≤ n → Agree m (reach m n r) (reach m k r)
stable m k r p zero h i j hi hj = let e : k ≡ 0 = omega arith in ap (λ (x : ℕ). reach m x r i j) (sym e)
stable m k r p (suc n) h i j hi hj = go (below_suc k (suc n) (omega arith)) (stable m k r p n)
  where
    go : (k < suc n) ⊎ (k ≡ suc n) → (k ≤ n → Agree m (reach m n r) (reach m k r)) → reach m (suc n) r i j ≡ reach m k r i j
    go (inr e) ih = ap (λ (x : ℕ). reach m x r i j) (sym e)
    go (inl l) ih = sym (reach_suc m n r (reach m n r) (λ _ _ _ _. refl) i j hi hj) ∙ reach_suc m k r (reach m n r) (ih (omega arith)) i j hi hj ∙ p i j hi hj

-- a step of one, and one by the word
abbrev pub stepped : ℕ → ℕ → ℕ → Relation
stepped m one word i j = matrix m one i j || compose m (matrix m one) (matrix m word) i j

pub next_step : (m k one word next : ℕ) → Shows m word (reach m k (matrix m one)) → Shows m next (stepped m one word) → Shows m next (reach m (k + 1) (matrix m one))
next_step m k one word next p q i j hi hj = rw add-one (q i j hi hj ∙ reach_suc m k (matrix m one) (matrix m word) p i j hi hj)

pub last_step : (m k one word next : ℕ) → Shows m word (reach m k (matrix m one)) → Shows m next (stepped m one word) → next ≡ word → k ≤ m → Shows m word (reach m m (matrix m one))
last_step m k one word next p q e l i j hi hj = p i j hi hj ∙ sym (stable m k (matrix m one) still m l i j hi hj)
  where
    still : Agree m (reach m (suc k) (matrix m one)) (reach m k (matrix m one))
    still a b ha hb = sym (rw add-one at (next_step m k one word next p q a b ha hb)) ∙ ap (λ (x : ℕ). matrix m x a b) e ∙ p a b ha hb

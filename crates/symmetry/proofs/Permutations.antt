-- A permutation of the m things reaches each of them, so 'some' and 'every' are unchanged under it.
use Rattle.std.proofs.Common.{◌≡◌, ℕ, zero, suc, ◌<◌, Bool, true, false, cond, not, eqb, ◌⊎◌, sym, ap, ◌∙◌, inl, inr, arith}
use mathlib.Core.Bool.{not-not}
use Rattle.std.proofs.lemmas.Bool.{both_ways, eq-eqb, ne_eqb, eqb-true, cases_Bool, cases_eq, cond-true, cond-false}
use Rattle.descriptions.specs.Pictures.{any, every}
use Rattle.descriptions.specs.Theorems.{Permutes}
use Rattle.descriptions.proofs.Quantifiers.{any_at, any_some, not_any, same_truth}

-- x, but c in place of m
replace : ℕ → ℕ → ℕ → ℕ
replace m c x = cond (eqb x m) c x

replace_same : (m c x : ℕ) → x ≡ m → replace m c x ≡ c
unfolding replace
replace_same m c x e = cond-true (eqb x m) c x (eq-eqb x m e)

replace_other : (m c x : ℕ) → (x ≡ m → ⊥) → replace m c x ≡ x
unfolding replace
replace_other m c x e = cond-false (eqb x m) c x (ne_eqb x m e)

replace_below : (m c x : ℕ) → x < suc m → c < suc m → (x ≡ c → ⊥) → replace m c x < m
replace_below m c x h k apart = elim (cases_eq x m) [ inl e ↦ let r = replace_same m c x e in let d : (c ≡ m → ⊥) = λ z. apart (e ∙ sym z) in omega arith | inr e ↦ let r = replace_other m c x e in omega arith ]

replace_injective : (m c x y : ℕ) → (x ≡ c → ⊥) → (y ≡ c → ⊥) → replace m c x ≡ replace m c y → x ≡ y
replace_injective m c x y p q e = go (cases_eq x m) (cases_eq y m)
  where
    go : (x ≡ m) ⊎ (x ≡ m → ⊥) → (y ≡ m) ⊎ (y ≡ m → ⊥) → x ≡ y
    go (inl a) (inl b) = a ∙ sym b
    go (inl a) (inr b) = absurd (q (sym (sym (replace_same m c x a) ∙ e ∙ replace_other m c y b)))
    go (inr a) (inl b) = absurd (p (sym (replace_other m c x a) ∙ e ∙ replace_same m c y b))
    go (inr a) (inr b) = sym (replace_other m c x a) ∙ e ∙ replace_other m c y b

-- the pigeonhole principle: if f missed c, then f with c in place of the last thing would permute one thing fewer, and miss one of those
permutation_misses_none : (m : ℕ) (f : ℕ → ℕ) → Permutes m f → (c : ℕ) → c < m → ((i : ℕ) → i < m → f i ≡ c → ⊥) → ⊥
permutation_misses_none zero f permutes c h missed = omega arith
permutation_misses_none (suc m) f permutes c h missed =
    permutation_misses_none m fewer
    (λ i l. below i (omega arith), λ i j hi hj e. injective i j (omega arith) (omega arith) e)
    (fewer m) (below m (omega arith)) (λ i l e. let same = injective i m (omega arith) (omega arith) e in omega arith)
  where
    fewer : ℕ → ℕ
    fewer i = replace m c (f i)

    below : (i : ℕ) → i < suc m → fewer i < m
    below i l = replace_below m c (f i) (permutes.0 i l) h (missed i l)

    injective : (i j : ℕ) → i < suc m → j < suc m → fewer i ≡ fewer j → i ≡ j
    injective i j hi hj e = permutes.1 i j hi hj (replace_injective m c (f i) (f j) (missed i hi) (missed j hj) e)

pub permutation_reaches : (m : ℕ) (f : ℕ → ℕ) → Permutes m f → (k : ℕ) → k < m → (i : ℕ) × (i < m) × (f i ≡ k)
permutation_reaches m f permutes k h = go (cases_Bool (any m (λ i. eqb (f i) k)))
  where
    go : (any m (λ i. eqb (f i) k) ≡ true) ⊎ (any m (λ i. eqb (f i) k) ≡ false) → (i : ℕ) × (i < m) × (f i ≡ k)
    go (inl e) = let r = any_some m (λ i. eqb (f i) k) e in (r.0, r.1, eqb-true _ _ r.2)
    go (inr e) = absurd (permutation_misses_none m f permutes k h (λ i l q. both_ways _ e (any_at m i (λ x. eqb (f x) k) l (eq-eqb (f i) k q))))

not_any_not : (m : ℕ) (g : ℕ → Bool) → not (any m (λ k. not (g k))) ≡ every m g
not_any_not m g = not_any m g (λ k. not (g k)) (λ k. sym (not-not (g k)))

-- h asks of each thing what g asks of the one that f takes it to, so both find one, or neither does
pub any_permuted : (m : ℕ) (f : ℕ → ℕ) → Permutes m f → (g h : ℕ → Bool) → ((k : ℕ) → k < m → g (f k) ≡ h k) → any m g ≡ any m h
any_permuted m f permutes g h moved =
    same_truth (any m g) (any m h)
    (λ e. let r = any_some m g e in let s = permutation_reaches m f permutes r.0 r.1 in any_at m s.0 h s.1 (sym (moved s.0 s.1) ∙ ap g s.2 ∙ r.2))
    (λ e. let r = any_some m h e in any_at m (f r.0) g (permutes.0 r.0 r.1) (moved r.0 r.1 ∙ r.2))

pub every_permuted : (m : ℕ) (f : ℕ → ℕ) → Permutes m f → (g h : ℕ → Bool) → ((k : ℕ) → k < m → g (f k) ≡ h k) → every m g ≡ every m h
every_permuted m f permutes g h moved =
    sym (not_any_not m g) ∙ ap not (any_permuted m f permutes (λ k. not (g k)) (λ k. not (h k)) (λ k l. ap not (moved k l))) ∙ not_any_not m h

-- How many links a chain has.
use Rattle.std.proofs.Common.{◌≡◌, ℕ, zero, suc, ◌+◌, ◌-◌, ◌*◌, ◌<◌, ◌≤◌, Bool, true, false, cond, ◌⊎◌, sym, refl, ap, ◌∙◌, inl, inr, add-zero, add-suc, mul-le-mul_right, mul_assoc, suc-mul, mul_comm, zero-mul, arith}
use Rattle.std.proofs.lemmas.Bool.{le-ltb, cases_eq}
use Rattle.firsts.specs.Leaders.{place, source, swap}
use Rattle.firsts.specs.Chains.{links, looks, ChainShort}
use Rattle.firsts.proofs.Places.{source_place, swap_other, swap_neither, swap_below}

total : (ℕ → ℕ) → ℕ → ℕ
total g zero = 0
total g (suc k) = g k + total g k

total_more : (g : ℕ → ℕ) (k : ℕ) → total g (suc k) ≡ g k + total g k
unfolding total
total_more g k = refl

total_none : (g : ℕ → ℕ) → total g 0 ≡ 0
unfolding total
total_none g = refl

pub links_fewer : (look : ℕ → Bool) (k j : ℕ) → links look k ≤ links look (k + j)
links_fewer look k zero = let e : links look (k + 0) ≡ links look k = ap (links look) (add-zero k) in omega arith
links_fewer look k (suc j) =
    let d : links look (k + suc j) ≡ links look (suc (k + j)) = ap (links look) (add-suc k j) in
    let e = links_fewer look k j in
    let f : links look (suc (k + j)) ≡ cond (look (k + j)) 1 0 + links look (k + j) = refl in
    omega arith

links_total : (look : ℕ → Bool) (k : ℕ) → links look k ≡ total (λ i. cond (look i) 1 0) k
unfolding total
links_total look zero = refl
links_total look (suc k) = ap (λ (x : ℕ). cond (look k) 1 0 + x) (links_total look k)

total_split : (g : ℕ → ℕ) (k j : ℕ) → total g (k + j) ≡ total g k + total (λ i. g (k + i)) j
total_split g k zero = let e = total_none (λ i. g (k + i)) in let f : total g (k + 0) ≡ total g k = ap (total g) (add-zero k) in omega arith
total_split g k (suc j) =
    let a = total_more g (k + j) in
    let b = total_more (λ i. g (k + i)) j in
    let c = total_split g k j in
    let d : total g (k + suc j) ≡ total g (suc (k + j)) = ap (total g) (add-suc k j) in
    omega arith

total_rows : (g : ℕ → ℕ) (m rows : ℕ) → total g (rows * m) ≡ total (λ i. total (λ j. g (i * m + j)) m) rows
total_rows g m zero = ap (total g) (zero-mul m) ∙ total_none g ∙ sym (total_none (λ i. total (λ j. g (i * m + j)) m))
total_rows g m (suc rows) =
    let a = total_split g (rows * m) m in
    let b = total_more (λ i. total (λ j. g (i * m + j)) m) rows in
    let c = total_rows g m rows in
    let d : total g (suc rows * m) ≡ total g (rows * m + m) = ap (total g) (suc-mul rows m) in
    omega arith

total_at_most : (g : ℕ → ℕ) (most k : ℕ) → ((i : ℕ) → i < k → g i ≤ most) → total g k ≤ k * most
total_at_most g most zero h = let e = total_none g in omega arith
total_at_most g most (suc k) h =
    let a = total_more g k in
    let b = total_at_most g most k (λ i l. h i (omega arith)) in
    let c = h k (omega arith) in
    let d = suc-mul k most in
    omega arith

-- only place a counts, and once
total_one : (g : ℕ → ℕ) (a k : ℕ) → ((i : ℕ) → i < k → (i ≡ a → ⊥) → g i ≤ 0) → g a ≤ 1 → (k ≤ a → total g k ≤ 0) × (total g k ≤ 1)
total_one g a zero h one = let e = total_none g in (λ l. omega arith, omega arith)
total_one g a (suc k) h one = go (cases_eq k a) (total_one g a k (λ i l n. h i (omega arith) n) one)
  where
    more : total g (suc k) ≡ g k + total g k
    more = total_more g k

    go : (k ≡ a) ⊎ (k ≡ a → ⊥) → (k ≤ a → total g k ≤ 0) × (total g k ≤ 1) → (suc k ≤ a → total g (suc k) ≤ 0) × (total g (suc k) ≤ 1)
    go (inl e) ih = let z = ih.0 (omega arith) in let w : g k ≤ 1 = rw e one in (λ l. absurd (omega arith), omega (arith, more))
    go (inr n) ih = let z = h k (omega arith) n in let y = ih.1 in (λ l. let x = ih.0 (omega arith) in omega (arith, more), omega (arith, more))

-- row a counts m times at most, row b not, and each other row once at most
total_cross : (g : ℕ → ℕ) (m a b k : ℕ) → a < b → b < m → k ≤ m → ((i : ℕ) → i < m → g i ≤ m) → g b ≤ 0 → ((i : ℕ) → i < m → (i ≡ a → ⊥) → (i ≡ b → ⊥) → g i ≤ 1) → (k ≤ a → total g k ≤ k) × (a < k → k ≤ b → total g k ≤ k + (m - 1)) × (b < k → total g k + 1 ≤ k + (m - 1))
total_cross g m a b zero ab bm km all none one = let e = total_none g in (λ l. omega arith, λ l r. absurd (omega arith), λ l. absurd (omega arith))
total_cross g m a b (suc k) ab bm km all none one = go (cases_eq k a) (cases_eq k b) (total_cross g m a b k ab bm (omega arith) all none one)
  where
    more : total g (suc k) ≡ g k + total g k
    more = total_more g k

    go : (k ≡ a) ⊎ (k ≡ a → ⊥) → (k ≡ b) ⊎ (k ≡ b → ⊥) → (k ≤ a → total g k ≤ k) × (a < k → k ≤ b → total g k ≤ k + (m - 1)) × (b < k → total g k + 1 ≤ k + (m - 1)) → (suc k ≤ a → total g (suc k) ≤ suc k) × (a < suc k → suc k ≤ b → total g (suc k) ≤ suc k + (m - 1)) × (b < suc k → total g (suc k) + 1 ≤ suc k + (m - 1))
    go (inl e) y ih = let z = ih.0 (omega arith) in let w = all k (omega arith) in (λ l. absurd (omega arith), λ l r. omega (arith, more), λ l. absurd (omega arith))
    go (inr n) (inl e) ih = let z = ih.1 (omega arith) (omega arith) in let w : g k ≤ 0 = rw e none in (λ l. absurd (omega arith), λ l r. absurd (omega arith), λ l. omega (arith, more))
    go (inr n) (inr f) ih =
        let w = one k (omega arith) n f in
        (λ l. let z = ih.0 (omega arith) in omega (arith, more), λ l r. let z = ih.1 (omega arith) (omega arith) in omega (arith, more), λ l. let z = ih.2 (omega arith) in omega (arith, more))

at_most_one : (x : Bool) → cond x 1 0 ≤ 1
at_most_one true = omega arith
at_most_one false = omega arith

module _ (m a b : ℕ) (ab : a < b) (bm : b < m) where
  -- whether the place of a pair is looked at, as a number
  abbrev looked : ℕ → ℕ → ℕ → ℕ
  looked r i j = cond (looks m a b (place m r i j)) 1 0

  not_looked : (r i j : ℕ) → i < m → j < m → place m r (swap a b i) (swap a b j) ≤ place m r i j → looked r i j ≤ 0
  not_looked r i j hi hj h =
      let e = source_place m r i j hi hj (swap a b) in
      let f : looks m a b (place m r i j) ≡ false = le-ltb (place m r i j) (source m (swap a b) (place m r i j)) (omega arith) in
      rw f (omega arith)

  row_a : (r i : ℕ) → total (looked r i) m ≤ m
  row_a r i = let h = total_at_most (looked r i) 1 m (λ j l. at_most_one (looks m a b (place m r i j))) in omega arith

  row_b : (r : ℕ) → total (looked r b) m ≤ 0
  row_b r = let h = total_at_most (looked r b) 0 m here in omega arith
    where
      here : (j : ℕ) → j < m → looked r b j ≤ 0
      here j hj =
          let e : swap a b b ≡ a = swap_other a b b (λ e. omega arith) refl in
          let l : swap a b j < m = swap_below a b m j (omega arith) bm hj in
          let x : suc (r * m + a) * m ≡ (r * m + a) * m + m = suc-mul (r * m + a) m in
          let y : suc (r * m + a) * m ≤ (r * m + b) * m = mul-le-mul_right m (omega arith) in
          not_looked r b j bm hj (rw e (omega arith))

  row_other : (r i : ℕ) → i < m → (i ≡ a → ⊥) → (i ≡ b → ⊥) → total (looked r i) m ≤ 1
  row_other r i hi na nb = (total_one (looked r i) a m here (at_most_one (looks m a b (place m r i a)))).1
    where
      e : swap a b i ≡ i
      e = swap_neither a b i na nb

      here : (j : ℕ) → j < m → (j ≡ a → ⊥) → looked r i j ≤ 0
      here j hj ja =
          elim (cases_eq j b)
          [ inl jb ↦ let f : swap a b j ≡ a = swap_other a b j ja jb in not_looked r i j hi hj (rw (e, f) (omega arith)) | inr jb ↦ let f : swap a b j ≡ j = swap_neither a b j ja jb in not_looked r i j hi hj (rw (e, f) (omega arith)) ]

  relation_links : (r : ℕ) → total (λ i. total (looked r i) m) m ≤ 2 * (m - 1)
  relation_links r =
      let h = (total_cross (λ i. total (looked r i) m) m a b m ab bm (omega arith) (λ i l. row_a r i) (row_b r) (row_other r)).2 bm in
      omega arith

pub chain_short : ChainShort
chain_short n m a b ab bm =
    let g : ℕ → ℕ = λ k. cond (looks m a b k) 1 0 in
    let rows : ℕ → ℕ = λ i. total (λ j. g (i * m + j)) m in
    let x : links (looks m a b) (n * (m * m)) ≡ total g (n * m * m) = links_total (looks m a b) (n * (m * m)) ∙ ap (total g) (sym (mul_assoc n m m)) in
    let y : total g (n * m * m) ≡ total rows (n * m) = total_rows g m (n * m) in
    let z : total rows (n * m) ≡ total (λ r. total (λ i. rows (r * m + i)) m) n = total_rows rows m n in
    let w : total (λ r. total (λ i. rows (r * m + i)) m) n ≤ n * (2 * (m - 1)) = total_at_most (λ r. total (λ i. rows (r * m + i)) m) (2 * (m - 1)) n (λ r l. relation_links m a b ab bm r) in
    let v : n * (2 * (m - 1)) ≡ 2 * (n * (m - 1)) = ap (λ (q : ℕ). n * q) (mul_comm 2 (m - 1)) ∙ sym (mul_assoc n (m - 1) 2) ∙ mul_comm (n * (m - 1)) 2 in
    omega arith

-- Places of bits, and transpositions of things.
use Rattle.std.proofs.Common.{◌≡◌, ℕ, suc, ◌+◌, ◌*◌, ◌/◌, ◌%◌, ◌<◌, ◌≤◌, Bool, false, cond, eqb, ◌⊎◌, length, sym, refl, ap, ◌∙◌, inl, inr, add-zero, mul-le-mul_right, mod-lt, mod-eq_of_lt, mul_assoc, suc-mul, div-lt_iff_lt-mul, div-add-mod', arith}
use native.Mathlib.Nat.{mul-add-div_right, mul-add-mod_self_right, div-eq_of_lt}
use Rattle.std.proofs.lemmas.List.FromFn.{length-map-range_with_len, get_or-map-range_with_len}
use Rattle.std.proofs.lemmas.Bool.{lt-ltb, eq-eqb, ne_eqb, cases_eq}
use Rattle.descriptions.specs.Pictures.{Picture, relation_of}
use Rattle.descriptions.specs.Theorems.{Permutes, Moved}
use Rattle.firsts.specs.Leaders.{bit_of, place, source, moved, swap}

-- a place tells its relation and its things
module _ (m r i j : ℕ) (hi : i < m) (hj : j < m) where
  second : place m r i j % m ≡ j
  second = mul-add-mod_self_right (r * m + i) m j ∙ mod-eq_of_lt hj

  pair : place m r i j / m ≡ r * m + i
  pair = let z : 0 < m = omega arith in mul-add-div_right z (r * m + i) j ∙ ap (λ (x : ℕ). r * m + i + x) (div-eq_of_lt hj) ∙ add-zero (r * m + i)

  relation : place m r i j / m / m ≡ r
  relation = let z : 0 < m = omega arith in ap (λ (x : ℕ). x / m) pair ∙ mul-add-div_right z r i ∙ ap (λ (x : ℕ). r + x) (div-eq_of_lt hi) ∙ add-zero r

  first : place m r i j / m % m ≡ i
  first = ap (λ (x : ℕ). x % m) pair ∙ mul-add-mod_self_right r m i ∙ mod-eq_of_lt hi

  pub source_place : (g : ℕ → ℕ) → source m g (place m r i j) ≡ place m r (g i) (g j)
  unfolding source
  source_place g = rw (relation, first, second) refl

  pub place_below : (n : ℕ) → r < n → place m r i j < n * (m * m)
  place_below n h =
      let a : suc (r * m + i) * m ≡ (r * m + i) * m + m = suc-mul (r * m + i) m in
      let b : suc (r * m + i) * m ≤ (suc r * m) * m = mul-le-mul_right m (let e = suc-mul r m in omega arith) in
      let c : (suc r * m) * m ≡ suc r * (m * m) = mul_assoc (suc r) m m in
      let d : suc r * (m * m) ≤ n * (m * m) = mul-le-mul_right (m * m) h in
      omega arith

  pub relation_at : (p : Picture) → relation_of m p r i j ≡ bit_of p (place m r i j)
  relation_at p = rw (lt-ltb i m hi, lt-ltb j m hj) refl

-- and each place is that of its relation and its things
pub place_of : (m k : ℕ) → place m (k / m / m) (k / m % m) (k % m) ≡ k
place_of m k = ap (λ (z : ℕ). z * m + k % m) (div-add-mod' (k / m) m) ∙ div-add-mod' k m

pub length_moved : (n m : ℕ) (g : ℕ → ℕ) (p : Picture) → length (moved n m g p) ≡ n * (m * m)
length_moved n m g p = length-map-range_with_len _ 0 (n * (m * m))

-- where g undoes f, the table is the picture with each thing i called f i
module _ (n m : ℕ) (f g : ℕ → ℕ) (permutes : Permutes m f) (back : (i : ℕ) → i < m → g (f i) ≡ i) where
  pub is_moved : (p : Picture) → Moved n m f p (moved n m g p)
  is_moved p r i j hr hi hj =
      let li = permutes.0 i hi in let lj = permutes.0 j hj in
      let to = place m r (f i) (f j) in
      relation_at m r (f i) (f j) li lj (moved n m g p)
      ∙ get_or-map-range_with_len (λ k. bit_of p (source m g k)) 0 (n * (m * m)) to to false (place_below m r (f i) (f j) li lj n hr) (omega arith)
      ∙ ap (bit_of p) (source_place m r (f i) (f j) li lj g)
      ∙ (let a = back i hi in let b = back j hj in rw (a, b) (sym (relation_at m r i j hi hj p)))

module _ (a b : ℕ) where
  pub swap_one : (i : ℕ) → i ≡ a → swap a b i ≡ b
  unfolding swap
  swap_one i e = ap (λ (x : Bool). cond x b (cond (eqb i b) a i)) (eq-eqb i a e)

  pub swap_other : (i : ℕ) → (i ≡ a → ⊥) → i ≡ b → swap a b i ≡ a
  unfolding swap
  swap_other i n e = ap (λ (x : Bool). cond x b (cond (eqb i b) a i)) (ne_eqb i a n) ∙ ap (λ (x : Bool). cond x a i) (eq-eqb i b e)

  pub swap_neither : (i : ℕ) → (i ≡ a → ⊥) → (i ≡ b → ⊥) → swap a b i ≡ i
  unfolding swap
  swap_neither i n k = ap (λ (x : Bool). cond x b (cond (eqb i b) a i)) (ne_eqb i a n) ∙ ap (λ (x : Bool). cond x a i) (ne_eqb i b k)

  pub swap_below : (m i : ℕ) → a < m → b < m → i < m → swap a b i < m
  swap_below m i ha hb hi = go (cases_eq i a) (cases_eq i b)
    where
      go : (i ≡ a) ⊎ (i ≡ a → ⊥) → (i ≡ b) ⊎ (i ≡ b → ⊥) → swap a b i < m
      go (inl e) y = let s = swap_one i e in omega arith
      go (inr n) (inl e) = let s = swap_other i n e in omega arith
      go (inr n) (inr k) = let s = swap_neither i n k in omega arith

  pub swap_twice : (i : ℕ) → swap a b (swap a b i) ≡ i
  swap_twice i = go (cases_eq i a) (cases_eq i b) (cases_eq b a)
    where
      go : (i ≡ a) ⊎ (i ≡ a → ⊥) → (i ≡ b) ⊎ (i ≡ b → ⊥) → (b ≡ a) ⊎ (b ≡ a → ⊥) → swap a b (swap a b i) ≡ i
      go (inl e) y (inl z) = ap (swap a b) (swap_one i e) ∙ swap_one b z ∙ z ∙ sym e
      go (inl e) y (inr z) = ap (swap a b) (swap_one i e) ∙ swap_other b z refl ∙ sym e
      go (inr n) (inl e) z = ap (swap a b) (swap_other i n e) ∙ swap_one a refl ∙ sym e
      go (inr n) (inr k) z = ap (swap a b) (swap_neither i n k) ∙ swap_neither i n k

  pub swap_permutes : (m : ℕ) → a < m → b < m → Permutes m (swap a b)
  swap_permutes m ha hb = (λ i hi. swap_below m i ha hb hi, λ i j hi hj e. sym (swap_twice i) ∙ ap (swap a b) e ∙ swap_twice j)

  module _ (m : ℕ) (ha : a < m) (hb : b < m) where
    -- a bit goes where the one there comes from
    pub source_twice : (k : ℕ) → source m (swap a b) (source m (swap a b) k) ≡ k
    unfolding source
    source_twice k =
        let z : 0 < m = omega arith in
        let i = k / m % m in let j = k % m in let r = k / m / m in
        source_place m r (swap a b i) (swap a b j) (swap_below m i ha hb (mod-lt (k / m) z)) (swap_below m j ha hb (mod-lt k z)) (swap a b)
        ∙ ap (λ (v : ℕ). place m r v (swap a b (swap a b j))) (swap_twice i)
        ∙ ap (λ (v : ℕ). place m r i v) (swap_twice j)
        ∙ place_of m k

    pub source_below : (n k : ℕ) → k < n * (m * m) → source m (swap a b) k < n * (m * m)
    unfolding source
    source_below n k h =
        let z : 0 < m = omega arith in
        let e : n * (m * m) ≡ n * m * m = sym (mul_assoc n m m) in
        let inside : k < n * m * m = omega arith in
        let row : k / m < n * m = (div-lt_iff_lt-mul z).1 inside in
        let known : k / m / m < n = (div-lt_iff_lt-mul z).1 row in
        place_below m (k / m / m) (swap a b (k / m % m)) (swap a b (k % m)) (swap_below m (k / m % m) ha hb (mod-lt (k / m) z)) (swap_below m (k % m) ha hb (mod-lt k z)) n known

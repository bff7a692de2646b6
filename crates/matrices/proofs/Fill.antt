-- A word filled place by place shows a relation.
use Rattle.std.proofs.Common.{◌≡◌, ℕ, ◌+◌, ◌*◌, ◌/◌, ◌%◌, ◌<◌, ◌≤◌, Bool, true, false, not, ◌&&◌, ◌||◌, eqb, ◌⊎◌, sym, refl, ap, subst, ◌∙◌, inl, inr, arith}
use Rattle.std.proofs.Math.Bool.{or-false}
use Rattle.std.proofs.lemmas.Nat.{mul-le, mul-add-lt, div-mul-add, mod-mul-add}
use Rattle.std.proofs.lemmas.Bool.{eq-eqb, ne_eqb}
use Rattle.descriptions.specs.Pictures.{any, every}
use Rattle.descriptions.proofs.Quantifiers.{not_any, any_cong, below_suc}
use Rattle.descriptions.specs.declared.shapes.Pair.{Pair}
use Rattle.descriptions.specs.Shapes.{PairAt}
use Rattle.matrices.specs.Words.{bit, matrix, Shows}
use Rattle.matrices.proofs.Bits.{bit_zero}

pub square : (m : ℕ) → m ≤ 8 → m * m ≤ 64
square m h = mul-le m m 8 8 h h

pub place_below : (m i j : ℕ) → i < m → j < m → i * m + j < m * m
place_below m i j hi hj = mul-add-lt i m j m hi hj

-- a word filled up to a place, where P says of each place which bit
pub record Filled (at w : ℕ) (P : ℕ → Bool → Type 0) : Type 0 where
  pub before : (k : ℕ) → k < at → P k (bit w k)
  pub after : (k : ℕ) → at ≤ k → bit w k ≡ false

pub filled_none : (P : ℕ → Bool → Type 0) → Filled 0 0 P
filled_none P = record { before = λ k h. absurd (omega arith); after = λ k h. bit_zero k }

-- one place more
pub filled_more : (at w v : ℕ) (b : Bool) (P : ℕ → Bool → Type 0) → Filled at w P → P at b → ((k : ℕ) → bit v k ≡ ((eqb k at && b) || bit w k)) → Filled (at + 1) v P
filled_more at w v b P f p s = record { before = λ k h. go k (below_suc k at (omega arith)); after = λ k h. s k ∙ rw (ne_eqb k at (omega arith)) (f.after k (omega arith)) }
  where
    go : (k : ℕ) → (k < at) ⊎ (k ≡ at) → P k (bit v k)
    go k (inl h) = subst (P k) (sym (s k ∙ rw (ne_eqb k at (omega arith)) refl)) (f.before k h)
    go k (inr e) = subst (λ (x : ℕ). P x (bit v x)) (sym e) (subst (P at) (sym (s at ∙ rw (eq-eqb at at refl, f.after at (omega arith)) (or-false b))) p)

-- at a pair that was worked out
pub at_pair : (m place : ℕ) (p : Pair) (Q : ℕ → ℕ → Type 0) → PairAt place m p → Q p.first p.second → Q (place / m) (place % m)
at_pair m place p Q q x = subst (λ (i : ℕ). Q i (place % m)) q.first (subst (λ (j : ℕ). Q p.first j) q.second x)

-- a whole word
pub filled_all : (m w at : ℕ) (Q : ℕ → ℕ → Bool → Type 0) → m * m ≤ at → Filled at w (λ k b. Q (k / m) (k % m) b) → (i j : ℕ) → i < m → j < m → Q i j (matrix m w i j)
filled_all m w at Q le f i j hi hj =
    let l = place_below m i j hi hj in
    subst (λ (x : ℕ). Q x j (matrix m w i j)) (div-mul-add i m j hj) (subst (λ (y : ℕ). Q ((i * m + j) / m) y (matrix m w i j)) (mod-mul-add i m j hj) (f.before (i * m + j) (omega arith)))

not_but : (a b : Bool) → (not a || b) ≡ not (a && not b)
not_but true true = refl
not_but true false = refl
not_but false b = refl

-- one relation is within the other where nothing is in the one and not in the other
pub within_is : (m a b c : ℕ) → Shows m c (λ i j. matrix m a i j && not (matrix m b i j)) → not (any m (λ i. any m (λ j. matrix m c i j))) ≡ every m (λ i. every m (λ j. not (matrix m a i j) || matrix m b i j))
within_is m a b c f =
    ap not (any_cong m _ _ (λ i hi. any_cong m _ _ (λ j hj. f i j hi hj)))
    ∙ not_any m (λ i. every m (λ j. not (matrix m a i j) || matrix m b i j)) _ (λ i. sym (not_any m (λ j. not (matrix m a i j) || matrix m b i j) _ (λ j. not_but (matrix m a i j) (matrix m b i j))))

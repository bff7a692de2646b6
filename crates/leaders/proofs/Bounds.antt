-- Places of pictures by relation and pair, and which bit comes where.
use Rattle.std.proofs.Common.{◌≡◌, ℕ, ◌+◌, ◌*◌, ◌/◌, ◌%◌, ◌<◌, sym, refl, ap, ◌∙◌, mod-lt, arith}
use Rattle.std.proofs.Math.Nat.{div-div-eq-div-mul}
use Rattle.std.proofs.Math.Arith.{mod-mul}
use Rattle.std.proofs.lemmas.Nat.{div-mul-add, mod-mul-add}
use Rattle.descriptions.specs.declared.shapes.Spot.{Spot}
use Rattle.descriptions.specs.declared.shapes.Pair.{Pair}
use Rattle.descriptions.specs.Shapes.{SpotAt, PairAt}
use Rattle.descriptions.proofs.Places.{place_sum}
use Rattle.firsts.specs.Leaders.{source, swap}
use Rattle.firsts.proofs.Places.{source_below}

-- the pair of a place in its relation
spot_first : (k m : ℕ) → 0 < m → k % (m * m) / m ≡ k / m % m
spot_first k m h = ap (λ (x : ℕ). x / m) (mod-mul k h h) ∙ div-mul-add (k / m % m) m (k % m) (mod-lt k h)

spot_second : (k m : ℕ) → 0 < m → k % (m * m) % m ≡ k % m
spot_second k m h = ap (λ (x : ℕ). x % m) (mod-mul k h h) ∙ mod-mul-add (k / m % m) m (k % m) (mod-lt k h)

-- the place of what comes there
module _ (n k m : ℕ) (s : Spot) (p : Pair) (spot : SpotAt n k m s) (pair : PairAt s.place m p) where
  pub source_is : (g : ℕ → ℕ) (i j pairs place : ℕ) → i ≡ g p.first → j ≡ g p.second → pairs ≡ m * m → place ≡ i * m + j → s.relation * pairs + place ≡ source m g k
  unfolding source
  source_is g i j pairs place hi hj hp hq =
      let some : 0 < m = let a = pair.first_below in omega arith in
      let r : s.relation ≡ k / m / m = spot.relation ∙ sym (div-div-eq-div-mul k m m) in
      let x : p.first ≡ k / m % m = pair.first ∙ ap (λ (z : ℕ). z / m) spot.place ∙ spot_first k m some in
      let y : p.second ≡ k % m = pair.second ∙ ap (λ (z : ℕ). z % m) spot.place ∙ spot_second k m some in
      rw (hp, hq) (sym (place_sum m s.relation i j) ∙ rw (hi, hj, r, x, y) refl)

pub source_inside : (n m a b k there : ℕ) → a < b → b < m → k < n * (m * m) → there ≡ source m (swap a b) k → there < n * (m * m)
source_inside n m a b k there ab bm h e = let f = source_below a b m (omega arith) bm n k h in omega arith

-- Where the bits of a picture of m things stand: the pair of i and j is at place i * m + j of its relation.
use Rattle.std.specs.Prelude.{◌≡◌, ℕ, ◌*◌, ◌/◌, ◌%◌, ◌<◌}
use Rattle.descriptions.specs.declared.shapes.Pair.{Pair}
use Rattle.descriptions.specs.declared.shapes.Spot.{Spot}

-- the pair at a place
pub record PairAt (place m : ℕ) (p : Pair) : Type 0 where
  pub first : p.first ≡ place / m
  pub second : p.second ≡ place % m
  pub first_below : p.first < m
  pub second_below : p.second < m
  pub low : place < 64

-- where bit k of the picture stands
pub record SpotAt (relations k m : ℕ) (s : Spot) : Type 0 where
  pub relation : s.relation ≡ k / (m * m)
  pub place : s.place ≡ k % (m * m)
  pub known : s.relation < relations
  pub low : s.place < 64

-- A sieve leaves the first. What is left need not be decided: it may be that some assignment satisfies clauses and draws the picture.
use Rattle.std.proofs.Common.{◌≡◌, ℕ, ◌*◌, Bool, true, false, ◌⊎◌, length, sym, ◌∙◌, subst, inl, inr}
use Rattle.std.proofs.lemmas.Bool.{both_ways}
use Rattle.descriptions.specs.Pictures.{Picture, Before}
use Rattle.descriptions.specs.Meaning.{Description, of}
use Rattle.descriptions.specs.First.{NoPicture, FirstOfSize}
use Rattle.descriptions.proofs.Order.{before_total}
use Rattle.firsts.specs.Orders.{NoneHas, FirstHas, NoneOf, FirstWith}
use Rattle.firsts.specs.Sieves.{Sieved, Keeps, SieveKeeps}
use Rattle.firsts.proofs.Order.{first_there}

module _ (n : ℕ) (has : Picture → Bool) (Left : Picture → Type 0) (sieved : Sieved n has Left) where
  pub none_left : NoneOf n Left → NoneHas n has
  none_left none p l = elim (first_there n has) [ inl x ↦ x p l | inr f ↦ absurd (none f.0 f.1.long (sieved.keeps f.0 f.1)) ]

  pub first_left : (p : Picture) → FirstWith n Left p → FirstHas n has p
  first_left p f = record { long = f.long; it_has = it_has; none_before = λ q l b. go q l b (first_there n has) }
    where
      it_has : has p ≡ true
      it_has = sieved.within p f.long f.it_has

      -- r is the first that has it: it is left, so it cannot stand before p
      by : (q : Picture) → length q ≡ n → Before q p → (r : Picture) → FirstHas n has r → Before r p ⊎ ((r ≡ p) ⊎ Before p r) → has q ≡ false
      by q l b r g (inl x) = absurd (f.none_before r g.long x (sieved.keeps r g))
      by q l b r g (inr (inl x)) = g.none_before q l (subst (λ (y : Picture). Before q y) (sym x) b)
      by q l b r g (inr (inr x)) = absurd (both_ways (has p) (g.none_before p f.long x) it_has)

      go : (q : Picture) → length q ≡ n → Before q p → NoneHas n has ⊎ ((r : Picture) × FirstHas n has r) → has q ≡ false
      go q l b (inl none) = none q l
      go q l b (inr r) = by q l b r.0 r.1 (before_total r.0 p (r.1.long ∙ sym f.long))

  pub sieve_keeps_of : Keeps n has Left
  sieve_keeps_of = record { none = none_left; first = first_left }

pub sieve_keeps : SieveKeeps
sieve_keeps n has left sieved = sieve_keeps_of n has (λ p. left p ≡ true) sieved

-- the first of a description's pictures of m things, in these words
module _ (d : Description) (m : ℕ) where
  pub has_first : (p : Picture) → FirstOfSize d m p → FirstHas (d.relations * (m * m)) (of d m) p
  has_first p f = record { long = f.sized; it_has = f.is_of; none_before = f.none_before }

  pub first_of_size : (p : Picture) → FirstHas (d.relations * (m * m)) (of d m) p → FirstOfSize d m p
  first_of_size p f = record { sized = f.long; is_of = f.it_has; none_before = f.none_before }

  module _ (Left : Picture → Type 0) (sieved : Sieved (d.relations * (m * m)) (of d m) Left) where
    pub no_picture_left : NoneOf (d.relations * (m * m)) Left → NoPicture d m
    no_picture_left none = none_left _ (of d m) Left sieved none

    pub first_of_size_left : (p : Picture) → FirstWith (d.relations * (m * m)) Left p → FirstOfSize d m p
    first_of_size_left p f = first_of_size p (first_left _ (of d m) Left sieved p f)

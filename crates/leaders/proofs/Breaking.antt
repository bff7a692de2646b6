-- Chains of transpositions leave the first picture of a description.
use Rattle.std.proofs.Common.{◌≡◌, ℕ, ◌*◌, ◌<◌, Bool, true, List, arith}
use Rattle.descriptions.specs.Pictures.{Picture}
use Rattle.descriptions.specs.Meaning.{Description, of}
use Rattle.descriptions.specs.Bytes.{Reads}
use Rattle.descriptions.specs.Theorems.{Sized}
use Rattle.descriptions.specs.First.{NoPicture, FirstOfSize}
use Rattle.clauses.specs.Formulas.{Assignment}
use Rattle.gates.specs.Views.{CircuitView, GoesV, SoundV}
use Rattle.firsts.specs.Orders.{NoneOf, FirstWith}
use Rattle.firsts.specs.Sieves.{Sieved}
use Rattle.firsts.specs.Leaders.{Leader}
use Rattle.firsts.proofs.Sieve.{first_of_size, no_picture_left, first_of_size_left}
use Rattle.firsts.proofs.Leading.{first_is_leader, unless_leader}
use Rattle.leaders.specs.Leading.{Each, LeadsV}
use Rattle.leaders.specs.Breaking.{DrawnV, SaysOfV, BrokenV, ChainsBreak}
use Rattle.leaders.proofs.Extending.{extends_goes}
use Rattle.leaders.proofs.Drawing.{drawn_by_some}

module _ (bytes : List ℕ) (d : Description) (m gates claims : ℕ) (Pair : ℕ → ℕ → Type 0) (s t : CircuitView) (all : Bool) (reads : Reads bytes d) (inside : d.relations * (m * m) < s.base) (says : SaysOfV d m s) (sound : SoundV t) (leads : LeadsV s d.relations m gates claims Pair t all) where
  before : (α : Assignment) → GoesV t α → GoesV s α
  before α goes = extends_goes leads.extends α goes

  within : (p : Picture) → Sized d m p → DrawnV t p → of d m p ≡ true
  within p l drawn = (says drawn.assignment p l (before drawn.assignment drawn.goes) drawn.draws).0 (leads.extends.met drawn.assignment drawn.meets)

  leader_drawn : (p : Picture) → Sized d m p → of d m p ≡ true → Leader d.relations m p → DrawnV t p
  leader_drawn p l is leader =
      let b = leads.extends.base in
      let x = drawn_by_some t p sound (omega arith) in
      let α = x.assignment in
      record {
        assignment = α;
        goes = x.goes;
        meets = leads.keeps α p l x.goes x.draws leader ((says α p l (before α x.goes) x.draws).1 is);
        draws = x.draws;
      }

  pub chains_broken : BrokenV d m t
  chains_broken =
      record {
        within = within;
        replaced = λ p l is none. unless_leader bytes d m reads p l (λ leader. none (leader_drawn p l is leader));
        keeps = λ p first. leader_drawn p first.sized first.is_of (first_is_leader bytes d m reads p first);
      }

pub chains_break : ChainsBreak
chains_break bytes d m gates claims s t all reads inside says sound leads = chains_broken bytes d m gates claims Each s t all reads inside says sound leads

-- so the first that is left is the first of the description, and if none is left there is none
module _ (d : Description) (m : ℕ) (c : CircuitView) (broken : BrokenV d m c) where
  sieved : Sieved (d.relations * (m * m)) (of d m) (DrawnV c)
  sieved = record { within = broken.within; keeps = λ p f. broken.keeps p (first_of_size d m p f) }

  pub none_drawn : NoneOf (d.relations * (m * m)) (DrawnV c) → NoPicture d m
  none_drawn none = no_picture_left d m (DrawnV c) sieved none

  pub first_drawn : (p : Picture) → FirstWith (d.relations * (m * m)) (DrawnV c) p → FirstOfSize d m p
  first_drawn p first = first_of_size_left d m (DrawnV c) sieved p first

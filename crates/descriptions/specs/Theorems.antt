-- What is proved of descriptions themselves.
use Rattle.std.specs.Prelude.{◌≡◌, ℕ, ◌*◌, ◌<◌, ◌⊎◌, List, length}
use Rattle.descriptions.specs.Pictures.{Picture, relation_of, Before}
use Rattle.descriptions.specs.Meaning.{Description, of}
use Rattle.descriptions.specs.Bytes.{Reads}

-- pictures of m things for a description: a bit for each relation and pair
abbrev pub Sized : Description → ℕ → Picture → Type 0
Sized d m p = length p ≡ d.relations * (m * m)

-- the order of pictures of one size is a strict total order
pub record StrictOrder : Type 0 where
  pub irreflexive : (p : Picture) → Before p p → ⊥
  pub transitive : (p q r : Picture) → Before p q → Before q r → Before p r
  pub total : (p q : Picture) → length p ≡ length q → Before p q ⊎ ((p ≡ q) ⊎ Before q p)

-- bytes are the writing of at most one description
abbrev pub OneDescription : Type 0
OneDescription = (s : List ℕ) (d e : Description) → Reads s d → Reads s e → d ≡ e

-- f takes each of m things to one of them, and different ones to different ones: a permutation
abbrev pub Permutes : ℕ → (ℕ → ℕ) → Type 0
Permutes m f = ((i : ℕ) → i < m → f i < m) × ((i j : ℕ) → i < m → j < m → f i ≡ f j → i ≡ j)

-- q is p with each thing i called f i
abbrev pub Moved : ℕ → ℕ → (ℕ → ℕ) → Picture → Picture → Type 0
Moved n m f p q = (r i j : ℕ) → r < n → i < m → j < m → relation_of m q r (f i) (f j) ≡ relation_of m p r i j

-- if things change places, a picture stays of the descriptions that it was of
abbrev pub NamesAreNothing : Type 0
NamesAreNothing = (s : List ℕ) (d : Description) (m : ℕ) (f : ℕ → ℕ) (p q : Picture) → Reads s d → Sized d m p → Sized d m q → Permutes m f → Moved d.relations m f p q → of d m p ≡ of d m q

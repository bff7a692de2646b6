-- All pictures in order.
use Rattle.std.specs.Prelude.{◌≡◌, ℕ, ◌≤◌, Bool, false, ◌⊎◌, List, length, Some, None, Option}
use Rattle.descriptions.specs.Pictures.{Picture, Before}
use Rattle.descriptions.specs.Meaning.{Description, of}
use Rattle.descriptions.specs.Bytes.{Reads}
use Rattle.descriptions.specs.First.{NoPicture, FirstOfSize, TheFirst}
use Rattle.evaluator.specs.declared.packing.Packed.{Packed}
use Rattle.evaluator.specs.Packing.{bit_at, unpacked}

-- q comes next after p; none comes after p
pub record Next (p q : Picture) : Type 0 where
  pub after : Before p q
  pub nothing_between : (r : Picture) → length r ≡ length p → Before r q → Before r p ⊎ (r ≡ p)

abbrev pub Last : Picture → Type 0
Last p = (r : Picture) → length r ≡ length p → Before p r → ⊥

-- a picture of m things and n relations
pub record Shaped (n m : ℕ) (p : Packed) : Type 0 where
  pub relations : p.shape.relations ≡ n
  pub things : p.shape.size.things ≡ m

-- no relation holds of anything
pub record Blank (n m : ℕ) (p : Packed) : Type 0 where
  pub shaped : Shaped n m p
  pub zeros : (k : ℕ) → bit_at p.words p.shape.size.things k ≡ false

-- the next picture in order, or there is none after
pub record NextIs (p q : Packed) : Type 0 where
  pub shaped : Shaped p.shape.relations p.shape.size.things q
  pub next : Next (unpacked p) (unpacked q)

abbrev pub Advanced : Packed → Option Packed → Type 0
Advanced p None = Last (unpacked p)
Advanced p (Some q) = NextIs p q

-- the description that the bytes are, if it is about n relations
abbrev pub About : List ℕ → ℕ → (Description → Type 0) → Type 0
About s n P = (d : Description) → Reads s d → d.relations ≡ n → P d

-- whether the picture is of it
pub record Tells (s : List ℕ) (p : Packed) (b : Bool) : Type 0 where
  pub tells : About s p.shape.relations (λ d. b ≡ of d p.shape.size.things (unpacked p))

-- the first picture of m things, or that there is none
pub record Reached (s : List ℕ) (n m : ℕ) (p : Packed) : Type 0 where
  pub shaped : Shaped n m p
  pub first : About s n (λ d. FirstOfSize d m (unpacked p))

abbrev pub FirstOf : List ℕ → ℕ → ℕ → Option Packed → Type 0
FirstOf s n m None = About s n (λ d. NoPicture d m)
FirstOf s n m (Some p) = Reached s n m p

-- the first of all, of up to some number of things
pub record ReachedUpTo (s : List ℕ) (n most : ℕ) (p : Packed) : Type 0 where
  pub shaped : Shaped n p.shape.size.things p
  pub few : p.shape.size.things ≤ most
  pub first : About s n (λ d. TheFirst d p.shape.size.things (unpacked p))

abbrev pub FirstUpTo : List ℕ → ℕ → ℕ → Option Packed → Type 0
FirstUpTo s n most None = About s n (λ d. (m : ℕ) → m ≤ most → NoPicture d m)
FirstUpTo s n most (Some p) = ReachedUpTo s n most p

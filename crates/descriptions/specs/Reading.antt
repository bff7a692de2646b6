-- What it says that a part of a description is read at a place: one contract for every recursion over bytes.
use Rattle.std.specs.Prelude.{◌≡◌, ℕ, ◌<◌, ◌≤◌, Bool, true, ◌&&◌, List, ◌++◌, length, drop, Some, None, Option}
use Rattle.descriptions.specs.declared.extents.Scope.{Scope}
use Rattle.descriptions.specs.declared.extents.Written.{Written}
use Rattle.descriptions.specs.declared.shapes.Outline.{Outline}
use Rattle.descriptions.specs.Meaning.{Description}
use Rattle.descriptions.specs.Bytes.{write_e, write_s, fine_e, fine_s, depth, Reads}

-- a well-formed part is written in s from a place to another, and P holds of it
pub record Stands {X : Type 0} (write : X → List ℕ) (fine : X → Bool) (s : List ℕ) (at end : ℕ) (P : X → Type 0) : Type 0 where
  pub part : X
  pub is_fine : fine part ≡ true
  pub written : drop at s ≡ write part ++ drop end s
  pub further : at < end
  pub inside : end ≤ length s
  pub says : P part

-- no well-formed part is written at a place, but for those of which N holds
abbrev pub Absent : {X : Type 0} → (X → List ℕ) → (X → Bool) → List ℕ → ℕ → (X → Type 0) → Type 0
Absent {X} write fine s at N = (e : X) (t : List ℕ) → fine e ≡ true → drop at s ≡ write e ++ t → N e

-- what is read at a place: a part that ends where the result says and of which P holds; or None, where there is none but for a reason N
abbrev pub Read : {X R : Type 0} → (X → List ℕ) → (X → Bool) → List ℕ → ℕ → (R → ℕ) → (X → R → Type 0) → (X → Type 0) → Option R → Type 0
Read {X} {R} write fine s at end P N None = Absent write fine s at N
Read {X} {R} write fine s at end P N (Some r) = Stands write fine s at (end r) (λ e. P e r)

-- two parts, one after the other
abbrev pub write_pair : {X : Type 0} → (X → List ℕ) → X × X → List ℕ
write_pair write x = write x.0 ++ write x.1

abbrev pub fine_pair : {X : Type 0} → (X → Bool) → X × X → Bool
fine_pair fine x = fine x.0 && fine x.1

-- where expressions and sentences end, and how deep 'for every' stands in them
abbrev pub ExtentE : Scope → List ℕ → ℕ → Option (Written ℕ) → Type 0
ExtentE c s at r = Read write_e (fine_e c.relations c.spoken) s at (λ x. x.end) (λ e x. x.value ≡ 0) (λ e. ⊥) r

abbrev pub ExtentsE : Scope → List ℕ → ℕ → Option (Written ℕ) → Type 0
ExtentsE c s at r = Read (write_pair write_e) (fine_pair (fine_e c.relations c.spoken)) s at (λ x. x.end) (λ e x. x.value ≡ 0) (λ e. ⊥) r

abbrev pub ExtentS : Scope → List ℕ → ℕ → Option (Written ℕ) → Type 0
ExtentS c s at r = Read write_s (fine_s c.relations c.spoken) s at (λ x. x.end) (λ e x. x.value ≡ depth e) (λ e. ⊥) r

-- bytes as a description: which one, with how many relations and how deep; or none
pub record Outlines (s : List ℕ) (o : Outline) : Type 0 where
  pub description : Description
  pub reads : Reads s description
  pub relations : o.relations ≡ description.relations
  pub depth : o.depth ≡ depth description.sentence

abbrev pub OutlineSays : List ℕ → Option Outline → Type 0
OutlineSays s None = (d : Description) → Reads s d → ⊥
OutlineSays s (Some o) = Outlines s o

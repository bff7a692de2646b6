-- What the public call promises.
use Rattle.std.specs.Prelude.{◌≡◌, ℕ, ◌+◌, ◌*◌, ◌^◌, ◌<◌, ◌≤◌, ◌⊎◌, List, length, take, drop, Some, None, Option, Ok, Err, Result}
use Rattle.descriptions.specs.Pictures.{Picture}
use Rattle.descriptions.specs.Meaning.{Description}
use Rattle.descriptions.specs.Bytes.{Reads, depth}
use Rattle.descriptions.specs.Theorems.{OneDescription, NamesAreNothing}
use Rattle.descriptions.specs.First.{NoPicture, TheFirst}
use Rattle.evaluator.specs.Packing.{bits}
use Rattle.pictures.specs.declared.Refusal.{Refusal}
use Rattle.pictures.specs.declared.Refusal.TheVariants.{NoDescription, OutFull, Few}

-- the work words that have to be lent for s bytes and at most n things, with 'for every' q deep
abbrev pub floor_of : ℕ → ℕ → ℕ → ℕ
floor_of s n q = 65536 + 64 * (s * ((n + 1) ^ (3 + q)))

abbrev pub floor_for : List ℕ → ℕ → Description → ℕ
floor_for s n d = floor_of (length s) n (depth d.sentence)

-- too few words are lent, or more than eight things asked for
abbrev pub TooFewWords : List ℕ → ℕ → ℕ → Description → Type 0
TooFewWords s n w d = (8 < n) ⊎ (w < floor_for s n d)

-- the first picture, of m things, stands first in out, and the rest of out is as it was
pub record FirstSays (s : List ℕ) (n m : ℕ) (o o' : List ℕ) : Type 0 where
  pub description : Description
  pub picture : Picture
  pub reads : Reads s description
  pub few : m ≤ n
  pub first : TheFirst description m picture
  pub written : take (length picture) o' ≡ bits picture
  pub rest : drop (length picture) o' ≡ drop (length picture) o

-- there is none of up to n things
pub record NoneSays (s : List ℕ) (n : ℕ) (o o' : List ℕ) : Type 0 where
  pub description : Description
  pub reads : Reads s description
  pub none : (m : ℕ) → m ≤ n → NoPicture description m
  pub same : o' ≡ o

-- the bytes are no description
pub record NoDescriptionSays (s : List ℕ) (o o' : List ℕ) : Type 0 where
  pub none : (d : Description) → Reads s d → ⊥
  pub same : o' ≡ o

-- out has fewer bytes than a picture of n things has bits
pub record OutFullSays (s : List ℕ) (n : ℕ) (o o' : List ℕ) : Type 0 where
  pub description : Description
  pub reads : Reads s description
  pub short : length o < description.relations * (n * n)
  pub same : o' ≡ o

pub record FewSays (s : List ℕ) (n : ℕ) (o o' : List ℕ) (w : ℕ) : Type 0 where
  pub description : Description
  pub reads : Reads s description
  pub few : TooFewWords s n w description
  pub same : o' ≡ o

-- the first picture's number of things; that there is none; or a refusal
abbrev pub Found : Type 0
Found = Result (Option ℕ) Refusal

abbrev pub FoundSays : List ℕ → ℕ → List ℕ → List ℕ → ℕ → Found → Type 0
FoundSays s n o o' w (Ok (Some m)) = FirstSays s n m o o'
FoundSays s n o o' w (Ok None) = NoneSays s n o o'
FoundSays s n o o' w (Err NoDescription) = NoDescriptionSays s o o'
FoundSays s n o o' w (Err OutFull) = OutFullSays s n o o'
FoundSays s n o o' w (Err Few) = FewSays s n o o' w

-- the theorems that the answers rest on
pub record Parts : Type 0 where
  pub one_description : OneDescription
  pub names_are_nothing : NamesAreNothing

-- the bytes s, at most n things, out before and after, and w work words: which answer comes, and what it says
pub record FoundPost (s : List ℕ) (n : ℕ) (o o' : List ℕ) (w : ℕ) (r : Found) : Type 0 where
  pub says : FoundSays s n o o' w r
  pub room : (d : Description) → Reads s d → TooFewWords s n w d → r ≡ Err Few
  pub full : (d : Description) → Reads s d → length o < d.relations * (n * n) → (r ≡ Err OutFull) ⊎ (r ≡ Err Few)
  pub parts : Parts

-- the answers as numbers: a number of things, or a code past all of them
abbrev pub refusal_code : Refusal → ℕ
refusal_code NoDescription = 0x101
refusal_code OutFull = 0x102
refusal_code Few = 0x103

abbrev pub code : Found → ℕ
code (Ok (Some m)) = m
code (Ok None) = 0x100
code (Err refusal) = refusal_code refusal

pub record CodePost (s : List ℕ) (n : ℕ) (o o' : List ℕ) (w c : ℕ) : Type 0 where
  pub found : Found
  pub is : c ≡ code found
  pub post : FoundPost s n o o' w found

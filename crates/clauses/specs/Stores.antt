-- Clauses in lent memory: their literals one after the other, and for each clause from where to where they stand.
use Rattle.std.specs.Prelude.{◌≡◌, ℕ, ◌+◌, ◌-◌, ◌*◌, ◌/◌, ◌^◌, ◌<◌, ◌≤◌, List, [], ◌∷◌, ◌++◌, map, length, take, drop, slice_index, slice_index_or, Some, None, Option, Ok, Err, Result}
use Rattle.std.specs.List.{range_with_len}
use Rattle.clauses.specs.declared.store.Unfit.{Unfit}
use Rattle.clauses.specs.declared.store.Unfit.TheVariants.{Literal, Room}
use Rattle.clauses.specs.Formulas.{Assignment, Satisfies, Models}
use Rattle.clauses.specs.Views.{ClausesView, StoreView}

unfoldable pub from : List ℕ → ℕ → ℕ
from spans k = slice_index spans (2 * k)

unfoldable pub to : List ℕ → ℕ → ℕ
to spans k = slice_index spans (2 * k + 1)

-- clause k, and the formula of the first n
unfoldable pub clause : List ℕ → List ℕ → ℕ → List ℕ
clause spans words k = take (to spans k - from spans k) (drop (from spans k) words)

unfoldable pub formula : List ℕ → List ℕ → ℕ → List (List ℕ)
formula spans words n = map (λ k. clause spans words k) (range_with_len 0 n)

-- each clause lies within what is used, and every literal is one of v variables
pub record Stored (v : ℕ) (spans words : List ℕ) (count used : ℕ) : Type 0 where
  pub spans_room : 2 * count ≤ length spans
  pub words_room : used ≤ length words
  pub small : used < 2 ^ 32
  pub order : (k : ℕ) → k < count → from spans k ≤ to spans k
  pub inside : (k : ℕ) → k < count → to spans k ≤ used
  pub known : (p : ℕ) → p < used → slice_index words p / 2 < v

-- each of so many spans ends before the later ones begin
abbrev pub InOrder : List ℕ → ℕ → Type 0
InOrder spans count = (j k : ℕ) → j < k → k < count → to spans j ≤ from spans k

-- spans of which each ends not before it begins, and not behind n words
abbrev pub AreSpans : List ℕ → ℕ → Type 0
AreSpans spans n = (k : ℕ) → k < length spans / 2 → (from spans k ≤ to spans k) × (to spans k ≤ n)

-- all spans and words are clauses
abbrev pub Clauses : ℕ → List ℕ → List ℕ → Type 0
Clauses v spans words = Stored v spans words (length spans / 2) (length words)

-- which ones, or that they are none
pub record Parsed (v : ℕ) (spans words : List ℕ) (c : ClausesView) : Type 0 where
  pub clauses : Clauses v spans words
  pub variables : c.variables ≡ v
  pub formula : c.formula ≡ formula spans words (length spans / 2)
  pub long : length c.formula ≡ length spans / 2

abbrev pub ParsedIf : ℕ → List ℕ → List ℕ → Option ClausesView → Type 0
ParsedIf v spans words None = Clauses v spans words → ⊥
ParsedIf v spans words (Some c) = Parsed v spans words c

-- clause k of a formula
abbrev pub clause_at : List (List ℕ) → ℕ → List ℕ
clause_at f k = slice_index_or f k []

-- every literal of a clause is one of v variables
abbrev pub Known : ℕ → List ℕ → Type 0
Known v c = (j : ℕ) → j < length c → slice_index c j / 2 < v

-- every model of the formula f satisfies a clause
abbrev pub Follows : List (List ℕ) → List ℕ → Type 0
Follows f c = (α : Assignment) → Models f α → Satisfies α c

-- and each clause of g
abbrev pub Sound : List (List ℕ) → List (List ℕ) → Type 0
Sound f g = (k : ℕ) → k < length g → Follows f (clause_at g k)

-- a store in the same memory
pub record SameMemory (s t : StoreView) : Type 0 where
  pub variables : t.variables ≡ s.variables
  pub spans_named : t.spans.ghost_name ≡ s.spans.ghost_name
  pub words_named : t.words.ghost_name ≡ s.words.ghost_name
  pub spans_size : length t.spans.now ≡ length s.spans.now
  pub words_size : length t.words.now ≡ length s.words.now

-- there, the clauses that stood there are as they were, and others may stand behind them
pub record Grown (s t : StoreView) : Type 0 where
  pub memory : SameMemory s t
  pub spans : (p : ℕ) → p < 2 * length s.formula → slice_index t.spans.now p ≡ slice_index s.spans.now p
  pub words : (p : ℕ) → p < s.used → slice_index t.words.now p ≡ slice_index s.words.now p
  pub used : s.used ≤ t.used
  pub more : List (List ℕ)
  pub formula : t.formula ≡ s.formula ++ more

-- there is room for one clause of n literals more
pub record Fits (s : StoreView) (n : ℕ) : Type 0 where
  pub spans : 2 * (length s.formula + 1) ≤ length s.spans.now
  pub words : s.used + n ≤ length s.words.now
  pub small : s.used + n < 2 ^ 32

-- one clause more, and the rest as it was
pub record Added (c : List ℕ) (s t : StoreView) : Type 0 where
  pub known : Known s.variables c
  pub fits : Fits s (length c)
  pub formula : t.formula ≡ s.formula ++ (c ∷ [])
  pub used : t.used ≡ s.used + length c
  pub memory : SameMemory s t
  pub spans : (p : ℕ) → p < 2 * length s.formula → slice_index t.spans.now p ≡ slice_index s.spans.now p
  pub words : (p : ℕ) → p < s.used → slice_index t.words.now p ≡ slice_index s.words.now p

-- a clause is refused only if a literal is of no variable, or for want of room; then nothing changes
abbrev pub AddedIf : List ℕ → StoreView → StoreView → Result (Unit {0}) Unfit → Type 0
AddedIf c s t (Ok _) = Added c s t
AddedIf c s t (Err Literal) = (Known s.variables c → ⊥) × (t ≡ s)
AddedIf c s t (Err Room) = (Fits s (length c) → ⊥) × (t ≡ s)

-- The trail: literals that hold, in the order in which they came; a mark of 1 is a decision.
use Rattle.std.specs.Prelude.{◌≡◌, ℕ, zero, suc, ◌+◌, ◌-◌, ◌*◌, ◌/◌, ◌%◌, ◌<◌, ◌≤◌, true, cond, ◌⊎◌, List, length, count_by, ◌==◌, nat_eq, nat_lt, slice_index, slice_index_or, slice_set, ◌≢◌}
use Rattle.clauses.specs.Formulas.{Assignment, value, Models}
use Rattle.trail.specs.Views.{TrailView, formula_of, variables_of}

-- a literal is true, or false, under the values: 0 is not known, 1 true, 2 false
abbrev pub IsTrueUnder : List ℕ → ℕ → Type 0
IsTrueUnder values l = slice_index values (l / 2) ≡ 1 + l % 2

abbrev pub IsFalseUnder : List ℕ → ℕ → Type 0
IsFalseUnder values l = slice_index values (l / 2) ≡ 2 - l % 2

-- under α each decision before n is true
abbrev pub Decided : List ℕ → List ℕ → Assignment → ℕ → Type 0
Decided literals marks α n = (q : ℕ) → q < n → slice_index marks q ≡ 1 → value α (slice_index literals q) ≡ true

-- no model has all decisions before n true
abbrev pub Stuck : List (List ℕ) → List ℕ → List ℕ → ℕ → Type 0
Stuck f literals marks n = (α : Assignment) → Models f α → Decided literals marks α n → ⊥

-- a literal stands before n
pub record OnTrail (literals : List ℕ) (n l : ℕ) : Type 0 where
  pub at : ℕ
  pub high : at < n
  pub is : slice_index_or literals at 0 ≡ l

-- how many variables have no value
unfoldable pub unknown : List ℕ → ℕ
unknown values = count_by (λ x. nat_eq x 0) values

-- what every trail of v variables keeps, for a formula f: what is true stands on it; and each literal on it is true in every model that has the decisions up to it
pub record Held (f : List (List ℕ)) (v : ℕ) (values literals marks : List ℕ) (n : ℕ) : Type 0 where
  pub size : length values ≡ v
  pub room : unknown values + n ≤ v
  pub literals_room : v ≤ length literals
  pub marks_room : v ≤ length marks
  pub small : (x : ℕ) → slice_index values x ≤ 2
  pub known : (p : ℕ) → p < n → slice_index literals p / 2 < v
  pub stands : (l : ℕ) → IsTrueUnder values l → OnTrail literals n l
  pub implied : (α : Assignment) → Models f α → (p : ℕ) → p < n → Decided literals marks α (p + 1) → value α (slice_index literals p) ≡ true

-- a decision of another trail that is still one, with the same literals up to it
pub record Stayed (literals marks : List ℕ) (n : ℕ) (literals' : List ℕ) (q : ℕ) : Type 0 where
  pub high : q < n
  pub decided : slice_index_or marks q 0 ≡ 1
  pub same : (p : ℕ) → p ≤ q → slice_index literals' p ≡ slice_index literals p

-- no decision has come: each was one before
pub record FollowsOn (literals marks : List ℕ) (n : ℕ) (literals' marks' : List ℕ) (n' : ℕ) : Type 0 where
  pub each : (q : ℕ) → q < n' → slice_index marks' q ≡ 1 → Stayed literals marks n literals' q

-- each decision is one of the first k assumptions, or all of these stand before it
pub record Assumed (assumptions : List ℕ) (k : ℕ) (literals marks : List ℕ) (n : ℕ) : Type 0 where
  pub each : (q : ℕ) → q < n → slice_index marks q ≡ 1 → OnTrail assumptions k (slice_index literals q) ⊎ ((i : ℕ) → i < k → OnTrail literals q (slice_index assumptions i))

-- the trail as a number in base 3, its first place the highest: implied 0, decided 1, not there 2; above all places how often it may yet be begun anew
unfoldable pub digit : List ℕ → ℕ → ℕ → ℕ
digit marks n p = cond (nat_lt p n) (cond (slice_index marks p == 1) 1 0) 2

unfoldable pub number : ℕ → List ℕ → ℕ → ℕ → ℕ
number budget marks n zero = budget
number budget marks n (suc k) = 3 * number budget marks n k + digit marks n k

-- the same of the code's trail
pub record Good (t : TrailView) : Type 0 where
  pub held : Held (formula_of t) (variables_of t) t.values t.literals t.marks t.len
  pub units : t.units.variables ≡ variables_of t

abbrev pub Jammed : TrailView → Type 0
Jammed t = Stuck (formula_of t) t.literals t.marks t.len

abbrev pub Later : TrailView → TrailView → Type 0
Later s t = FollowsOn s.literals s.marks s.len t.literals t.marks t.len

abbrev pub AssumedT : List ℕ → ℕ → TrailView → Type 0
AssumedT assumptions k t = Assumed assumptions k t.literals t.marks t.len

abbrev pub rank : ℕ → TrailView → ℕ
rank budget t = number budget t.marks t.len (variables_of t)

-- the number falls, or does not rise
abbrev pub Falls : TrailView → TrailView → Type 0
Falls s t = (budget : ℕ) → rank budget t < rank budget s

abbrev pub FallsOrStays : TrailView → TrailView → Type 0
FallsOrStays s t = (budget : ℕ) → rank budget t ≤ rank budget s

-- a trail over the same clauses
pub record SameClauses (s t : TrailView) : Type 0 where
  pub problem : t.problem ≡ s.problem
  pub units : t.units ≡ s.units

-- a literal is true in every model that has the decisions before a place
abbrev pub Forced : TrailView → ℕ → ℕ → Type 0
Forced t before l = (α : Assignment) → Models (formula_of t) α → Decided t.literals t.marks α before → value α l ≡ true

-- no assignment is a model
abbrev pub NoneModels : List (List ℕ) → Type 0
NoneModels f = (α : Assignment) → Models f α → ⊥

-- no decision stands before the root
abbrev pub Rooted : List ℕ → ℕ → Type 0
Rooted marks root = (q : ℕ) → q < root → slice_index marks q ≢ 1

-- the root when a literal comes behind n others: it moves on only if it was the end and this is no decision
pub record RootAfter (root n mark root' : ℕ) : Type 0 where
  pub before : root < n → root' ≡ root
  pub decided : root ≡ n → mark ≡ 1 → root' ≡ root
  pub implied : root ≡ n → mark ≢ 1 → root' ≡ n + 1

-- one literal more stands on the trail, with a mark
pub record Put (s : TrailView) (l mark : ℕ) (t : TrailView) : Type 0 where
  pub clauses : SameClauses s t
  pub values : t.values ≡ slice_set s.values (l / 2) (1 + l % 2)
  pub literals : t.literals ≡ slice_set s.literals s.len l
  pub marks : t.marks ≡ slice_set s.marks s.len mark
  pub len : t.len ≡ s.len + 1

-- one less, which has no value any more
pub record Popped (s t : TrailView) (l : ℕ) : Type 0 where
  pub clauses : SameClauses s t
  pub values : t.values ≡ slice_set s.values (l / 2) 0
  pub literals : t.literals ≡ s.literals
  pub marks : t.marks ≡ s.marks
  pub len : s.len ≡ t.len + 1
  pub is : l ≡ slice_index s.literals t.len

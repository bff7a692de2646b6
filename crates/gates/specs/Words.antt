-- Gates and claims in words, three each, and the assignments that go with them.
use Rattle.std.specs.Prelude.{◌≡◌, ℕ, ◌+◌, ◌*◌, ◌/◌, ◌^◌, ◌<◌, ◌≤◌, Bool, true, ◌&&◌, ◌||◌, List, length, slice_index}
use Rattle.clauses.specs.Formulas.{Assignment, value}

-- p, or x and y
abbrev pub mix : Assignment → ℕ → ℕ → ℕ → Bool
mix α p x y = value α p || (value α x && value α y)

-- one of three
abbrev pub either : Assignment → ℕ → ℕ → ℕ → Bool
either α a b c = value α a || (value α b || value α c)

-- what gate k makes of an assignment
unfoldable pub output : List ℕ → ℕ → Assignment → Bool
output g k α = mix α (slice_index g (3 * k)) (slice_index g (3 * k + 1)) (slice_index g (3 * k + 2))

-- claim k is true
unfoldable pub claimed : List ℕ → ℕ → Assignment → Bool
claimed t k α = either α (slice_index t (3 * k)) (slice_index t (3 * k + 1)) (slice_index t (3 * k + 2))

-- an assignment goes with the first n gates: variable 0 is true, and gate k is the variable base + k
pub record Goes (base : ℕ) (g : List ℕ) (n : ℕ) (α : Assignment) : Type 0 where
  pub top : α 0 ≡ true
  pub gates : (k : ℕ) → k < n → α (base + k) ≡ output g k α

-- and makes the first c claims true
abbrev pub Meets : List ℕ → ℕ → Assignment → Type 0
Meets t c α = (k : ℕ) → k < c → claimed t k α ≡ true

-- a gate's inputs come before it, claims are about gates that there are, and all literals that the words have room for fit 32 bits
pub record Sound (base : ℕ) (g : List ℕ) (n : ℕ) (t : List ℕ) (c : ℕ) : Type 0 where
  pub room : 3 * n ≤ length g
  pub small : 2 * (base + length g / 3 + 1) < 2 ^ 32
  pub some : 0 < base
  pub before : (k j : ℕ) → k < n → j < 3 → slice_index g (3 * k + j) < 2 * (base + k)
  pub claims_room : 3 * c ≤ length t
  pub claims_known : (i : ℕ) → i < 3 * c → slice_index t i < 2 * (base + n)

-- gates are only added, and claims stay as they were
pub record Grows (base : ℕ) (g : List ℕ) (n : ℕ) (t : List ℕ) (c : ℕ) (base' : ℕ) (g' : List ℕ) (n' : ℕ) (t' : List ℕ) (c' : ℕ) : Type 0 where
  pub same : base' ≡ base
  pub more : n ≤ n'
  pub size : length g' ≡ length g
  pub kept : (i : ℕ) → i < 3 * n → slice_index g' i ≡ slice_index g i
  pub claims : t' ≡ t
  pub claims_count : c' ≡ c

-- what a function does that adds at most so many gates
pub record Adds (base : ℕ) (g : List ℕ) (n : ℕ) (t : List ℕ) (c : ℕ) (base' : ℕ) (g' : List ℕ) (n' : ℕ) (t' : List ℕ) (c' : ℕ) (most : ℕ) : Type 0 where
  pub grew : Grows base g n t c base' g' n' t' c'
  pub few : n' ≤ n + most

-- the literal l is of a gate or an input, and has the value v in every assignment that goes with the gates
pub record Gives (base : ℕ) (g : List ℕ) (n : ℕ) (l : ℕ) (v : Assignment → Bool) : Type 0 where
  pub low : l < 2 * (base + n)
  pub is : (α : Assignment) → Goes base g n α → value α l ≡ v α

-- What callers see of an order: of how many variables it is, how many of them are to be decided, which of these stands
-- on top, and in which memory it is.
use Rattle.std.specs.Prelude.{◌≡◌, ℕ, ◌+◌, ◌<◌, Some, None, Option}
use Rattle.std.specs.Borrow.{GName}

pub record Queue : Type 0 where
  pub variables : ℕ
  pub count : ℕ
  pub top : ℕ
  pub scores_name : GName
  pub heap_name : GName
  pub places_name : GName

-- of as many variables, in the same lent memory
pub record Kept (q q' : Queue) : Type 0 where
  pub variables : q'.variables ≡ q.variables
  pub scores_named : q'.scores_name ≡ q.scores_name
  pub heap_named : q'.heap_name ≡ q.heap_name
  pub places_named : q'.places_name ≡ q.places_name

-- the variable that stood on top came out
pub record Taken (q q' : Queue) (v : ℕ) : Type 0 where
  pub top : v ≡ q.top
  pub known : v < q.variables
  pub fewer : q'.count + 1 ≡ q.count

-- nothing comes out only where there is nothing
abbrev pub Popped : Queue → Queue → Option ℕ → Type 0
Popped q q' None = q.count ≡ 0
Popped q q' (Some v) = Taken q q' v

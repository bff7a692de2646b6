-- What callers see of clauses: of how many variables their literals are, and what formula they are.
use Rattle.std.specs.Prelude.{ℕ, List}
use Rattle.std.specs.Borrow.{MutBor}

pub record ClausesView : Type 0 where
  pub variables : ℕ
  pub formula : List (List ℕ)

-- of a store also how many literals stand in it, and the memory that it was lent
pub record StoreView : Type 0 where
  pub variables : ℕ
  pub formula : List (List ℕ)
  pub used : ℕ
  pub spans : MutBor (List ℕ)
  pub words : MutBor (List ℕ)

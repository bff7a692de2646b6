-- What callers see of a trail: the clauses that it is over, the values, and the literals in their order with their marks.
use Rattle.std.specs.Prelude.{ℕ, List, ◌++◌}
use Rattle.clauses.specs.Views.{ClausesView, StoreView}

pub record TrailView : Type 0 where
  pub problem : ClausesView
  pub units : StoreView
  pub values : List ℕ
  pub literals : List ℕ
  pub marks : List ℕ
  pub len : ℕ

-- all clauses
abbrev pub formula_of : TrailView → List (List ℕ)
formula_of t = t.problem.formula ++ t.units.formula

-- how many variables there are
abbrev pub variables_of : TrailView → ℕ
variables_of t = t.problem.variables

-- What callers see of causes and of a search.
use Rattle.std.specs.Prelude.{ℕ, ◌+◌, List, length}
use Rattle.clauses.specs.Views.{StoreView}
use Rattle.propagation.specs.declared.watches.Watches.{Watches}
use Rattle.trail.specs.Views.{TrailView, variables_of as variables_on, formula_of as formula_on}

-- why each variable has its value: the clause that implied it plus one, or 0; at which level, and where on the trail
pub record CausesView : Type 0 where
  pub reasons : List ℕ
  pub levels : List ℕ
  pub places : List ℕ

pub record SearchView : Type 0 where
  pub trail : TrailView
  pub causes : CausesView
  pub watches : Watches
  pub learned : StoreView

abbrev pub variables_of : SearchView → ℕ
variables_of s = variables_on s.trail

abbrev pub formula_of : SearchView → List (List ℕ)
formula_of s = formula_on s.trail

-- how many clauses have a number: the problem's, then those that were learned
abbrev pub numbers_of : SearchView → ℕ
numbers_of s = length s.trail.problem.formula + length s.learned.formula

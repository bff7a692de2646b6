-- What every search keeps, and what its steps leave.
use Rattle.std.specs.Prelude.{◌≡◌, ℕ, ◌-◌, ◌<◌, ◌≤◌, List, length}
use Rattle.clauses.specs.Stores.{clause_at, Sound, Known, Follows}
use Rattle.trail.specs.Trails.{SameClauses, FallsOrStays, Later}
use Rattle.propagation.specs.Views.{SearchView, variables_of, formula_of, numbers_of}

-- what was learned follows, and there is a cause for each variable
pub record Ready (s : SearchView) : Type 0 where
  pub sound : Sound (formula_of s) s.learned.formula
  pub known : s.learned.variables ≡ variables_of s
  pub causes : length s.causes.reasons ≡ variables_of s
  pub few : variables_of s < 2147483648

-- over the same clauses, and what was learned is as it was
pub record Same (s t : SearchView) : Type 0 where
  pub clauses : SameClauses s.trail t.trail
  pub learned : t.learned ≡ s.learned

-- and the trail has gone on, by what its decisions imply
pub record Onward (s t : SearchView) : Type 0 where
  pub same : Same s t
  pub falls : FallsOrStays s.trail t.trail
  pub later : Later s.trail t.trail

-- a clause that follows, by its number: the problem's come first, and then those that were learned
pub record Numbered (s : SearchView) (number : ℕ) (c : List ℕ) : Type 0 where
  pub inside : number < numbers_of s
  pub given : number < length s.trail.problem.formula → c ≡ clause_at s.trail.problem.formula number
  pub taught : length s.trail.problem.formula ≤ number → c ≡ clause_at s.learned.formula (number - length s.trail.problem.formula)
  pub known : Known (variables_of s) c
  pub follows : Follows (formula_of s) c

-- What callers see of a solver: the trail over the clauses, who watches which clause and what is learned; its analysis, when
-- clauses took part, which variable is next and which value it had, how many variables are decided first, how often what was
-- done, and its pace.
use Rattle.std.specs.Prelude.{ℕ, List}
use Rattle.std.specs.Borrow.{MutBor}
use Rattle.clauses.specs.Views.{StoreView}
use Rattle.trail.specs.Views.{TrailView}
use Rattle.propagation.specs.declared.watches.Watches.{Watches}
use Rattle.analysis.specs.Views.{AnalysisView}
use Rattle.learning.specs.declared.forgetting.Uses.{Uses}
use Rattle.order.specs.Queues.{Queue}
use Rattle.conflicts.specs.declared.Counters.{Counters}
use Rattle.solver.specs.declared.pace.Pace.{Pace}

pub record SolverView : Type 0 where
  pub trail : TrailView
  pub watches : Watches
  pub learned : StoreView
  pub analysis : AnalysisView
  pub uses : Uses
  pub order : Queue
  pub phases : MutBor (List ℕ)
  pub decided : ℕ
  pub counters : Counters
  pub pace : Pace

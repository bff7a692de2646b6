-- What callers see of a learner: its search and its analysis, when clauses took part, which variable is next and which value it
-- had, how many variables are decided first, and how often what was done.
use Rattle.std.specs.Prelude.{ℕ, List}
use Rattle.std.specs.Borrow.{MutBor}
use Rattle.analysis.specs.Views.{AnalysisView}
use Rattle.propagation.specs.Views.{SearchView}
use Rattle.learning.specs.declared.forgetting.Uses.{Uses}
use Rattle.order.specs.Queues.{Queue}
use Rattle.conflicts.specs.declared.Counters.{Counters}

pub record LearnerView : Type 0 where
  pub search : SearchView
  pub analysis : AnalysisView
  pub uses : Uses
  pub order : Queue
  pub phases : MutBor (List ℕ)
  pub decided : ℕ
  pub counters : Counters

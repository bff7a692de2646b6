-- What becomes of a search where no model has its decisions, and of a learner that decides on.
use Rattle.std.specs.Prelude.{◌≡◌}
use Rattle.trail.specs.Trails.{SameClauses, Later}
use Rattle.propagation.specs.Views.{SearchView}
use Rattle.conflicts.specs.Views.{LearnerView}

-- over the same clauses, with no decision that was none before; what is learned may have changed
pub record Turned (s t : SearchView) : Type 0 where
  pub clauses : SameClauses s.trail t.trail
  pub later : Later s.trail t.trail

-- the trail and its causes may have changed, and nothing else
pub record TrailAlone (l m : LearnerView) : Type 0 where
  pub watches : m.search.watches ≡ l.search.watches
  pub learned : m.search.learned ≡ l.search.learned
  pub analysis : m.analysis ≡ l.analysis
  pub uses : m.uses ≡ l.uses
  pub decided : m.decided ≡ l.decided

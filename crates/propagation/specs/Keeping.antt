-- What causes and a search show and keep.
use Rattle.std.specs.Prelude.{◌≡◌, length}
use Rattle.propagation.specs.declared.causes.Causes.TheInside.{Inside as CausesInside}
use Rattle.propagation.specs.declared.search.Search.TheInside.{Inside}
use Rattle.propagation.specs.Views.{CausesView, SearchView}
use Rattle.propagation.specs.Searching.{Ready}

abbrev pub causes_view : CausesInside → CausesView
causes_view c = record { reasons = c.reasons.now; levels = c.levels.now; places = c.places.now }

-- a level and a place for each reason
pub record Alike (c : CausesInside) : Type 0 where
  pub levels : length c.levels.now ≡ length c.reasons.now
  pub places : length c.places.now ≡ length c.reasons.now

abbrev pub search_view : Inside → SearchView
search_view s = record { trail = s.trail; causes = s.causes; watches = s.watches; learned = s.learned }

abbrev pub IsReady : Inside → Type 0
IsReady s = Ready (search_view s)

-- What a learner shows and keeps.
use Rattle.analysis.specs.Marking.{Fits}
use Rattle.conflicts.specs.declared.Learner.TheInside.{Inside}
use Rattle.conflicts.specs.Views.{LearnerView}

abbrev pub learner_view : Inside → LearnerView
learner_view l = record { search = l.search; analysis = l.analysis; uses = l.uses; order = l.order; phases = l.phases; decided = l.decided; counters = l.counters }

-- a mark for each variable
abbrev pub IsLearner : Inside → Type 0
IsLearner l = Fits l.analysis l.search

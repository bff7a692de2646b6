-- What a solver shows.
use Rattle.solver.specs.declared.Solver.TheInside.{Inside}
use Rattle.solver.specs.Views.{SolverView}

abbrev pub solver_view : Inside → SolverView
solver_view s = record { trail = s.learner.search.trail; watches = s.learner.search.watches; learned = s.learner.search.learned; analysis = s.learner.analysis; uses = s.learner.uses; order = s.learner.order; phases = s.learner.phases; decided = s.learner.decided; counters = s.learner.counters; pace = s.pace }

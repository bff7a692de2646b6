use Rattle.std.proofs.Common.{◌-◌}
use Rattle.propagation.specs.Views.{variables_of}
use Rattle.propagation.specs.Searching.{Onward}
use Rattle.propagation.proofs.search.Search.propagate.Given as goal

abbrev pub invariant-loop-queue : goal.invariant-loop-queue
invariant-loop-queue l = Onward l.initial.self l.self

abbrev pub decreases-loop-queue : goal.decreases-loop-queue
decreases-loop-queue l = variables_of l.initial.self - l.queue

use Rattle.std.proofs.Common.{◌^◌, ◌<◌}
use Rattle.leaders.proofs.Chaining.{Chained}
use Rattle.leaders.proofs.chain.Given as goal

abbrev pub invariant-loop-place : goal.invariant-loop-place
invariant-loop-place l = Chained l.initial.circuit l.circuit l.shape.size.things l.swap.one l.swap.other l.place l.smaller × (l.smaller < 2 ^ 32)

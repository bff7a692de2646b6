use Rattle.std.proofs.Common.{◌+◌, ◌<◌}
use Rattle.leaders.specs.Leading.{Leads}
use Rattle.leaders.proofs.lead.Given as goal

abbrev pub invariant-loop-other : goal.invariant-loop-other
invariant-loop-other l = Leads l.initial.circuit l.shape.relations l.shape.size.things l.limits.gates l.limits.claims (λ a b. (a + 1 < b) × (b < l.other)) l.circuit l.apart

use Rattle.std.proofs.Common.{◌≡◌, ◌<◌, ◌≤◌}
use Rattle.leaders.specs.Leading.{Leads}
use Rattle.leaders.proofs.lead_with.Given as goal

abbrev pub invariant-loop-one : goal.invariant-loop-one
invariant-loop-one l = Leads l.initial.circuit l.shape.relations l.shape.size.things l.limits.gates l.limits.claims (λ a b. (b ≡ l.other) × ((l.low ≤ a) × (a < l.one))) l.circuit l.all

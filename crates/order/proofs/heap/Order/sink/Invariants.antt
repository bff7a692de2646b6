use Rattle.std.proofs.Common.{◌≡◌, ◌-◌, ◌<◌}
use Rattle.order.specs.Queues.{Kept}
use Rattle.order.proofs.heap.Order.sink.Given as goal

abbrev pub invariant-loop-at : goal.invariant-loop-at
invariant-loop-at l = record {
  kept : Kept l.initial.self l.self;
  counted : l.self.count ≡ l.initial.self.count;
  within : l.at < l.self.count;
  known : l.variable < l.self.variables;
}

abbrev pub decreases-loop-at : goal.decreases-loop-at
decreases-loop-at l = l.self.count - l.at

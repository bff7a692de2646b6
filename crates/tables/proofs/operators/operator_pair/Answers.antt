use Rattle.gates.proofs.Literals.{negated_low}
use Rattle.tables.proofs.Filling.{came_is}
use Rattle.tables.proofs.Ways.{union_is, intersection_is, difference_is}
use Rattle.tables.proofs.operators.operator_pair.Goals as goal

pub gate-requires-in-Difference-clause-iny : goal.gate-requires-in-Difference-clause-iny
gate-requires-in-Difference-clause-iny c = negated_low _ _ _ c.negated.ensures (rw c.literal_at-there.ensures (c.requires.other.low _ _ c.requires.inside.0 c.requires.inside.1))

pub returns-in-Union-clause-came : goal.returns-in-Union-clause-came
returns-in-Union-clause-came c = rw c.in-Union.is (came_is c.gate.new.self _ _ _ (λ α o. union_is _ _ _ _ _ _ _ c.literal_at-here.ensures c.literal_at-there.ensures α o.top) c.gate.ensures.came)

pub returns-in-Intersection-clause-came : goal.returns-in-Intersection-clause-came
returns-in-Intersection-clause-came c = rw c.in-Intersection.is (came_is c.gate-in-Intersection.new.self _ _ _ (λ α o. intersection_is _ _ _ _ _ _ _ c.literal_at-here.ensures c.literal_at-there.ensures α o.top) c.gate-in-Intersection.ensures.came)

pub returns-in-Difference-clause-came : goal.returns-in-Difference-clause-came
returns-in-Difference-clause-came c = rw c.in-Difference.is (came_is c.gate-in-Difference.new.self _ _ _ (λ α o. difference_is _ _ _ _ _ _ _ c.literal_at-here.ensures c.literal_at-there.ensures α o.top _ c.negated.ensures) c.gate-in-Difference.ensures.came)

use Rattle.std.proofs.Common.{refl}
use Rattle.tables.specs.Tables.{shown}
use Rattle.tables.proofs.Filling.{came_is}
use Rattle.tables.proofs.operators.through_pair.Goals as goal

pub returns-clause-came : goal.returns-clause-came
unfolding shown
returns-clause-came c = came_is c.gate.new.self _ _ _ (λ α o. rw (c.literal_at.ensures, c.literal_at-2.ensures, c.literal_at-3.ensures) refl) c.gate.ensures.came

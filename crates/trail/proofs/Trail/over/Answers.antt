use Rattle.std.proofs.Common.{arith}
use Rattle.trail.proofs.Trail.over.Goals as goal

pub root_of-root-requires : goal.root_of-root-requires
root_of-root-requires c = omega (arith, c.requires.held.room, c.requires.held.marks_room)

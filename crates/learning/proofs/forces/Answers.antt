use Rattle.std.proofs.Common.{subst, arith}
use Rattle.trail.specs.Trails.{Good}
use Rattle.learning.proofs.Following.{forced}
use Rattle.learning.proofs.forces.Goals as goal

pub returns : goal.returns
returns c _ = forced _ _ _ _ _ _ _ _ c.args.literal (subst Good c.trail.ensures c.keeps.ensures).held c.requires.within c.requires.taught.follows (λ j h. c.loop-other.invariant j (omega arith))

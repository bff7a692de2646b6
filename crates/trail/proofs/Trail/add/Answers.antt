use Rattle.std.proofs.Common.{refl}
use Rattle.trail.specs.Keeping.{trail_view}
use Rattle.trail.proofs.Steps.{good_either}
use Rattle.trail.proofs.Trail.add.Goals as goal

pub invariant_of-self : goal.invariant_of-self
invariant_of-self c = record { good = good_either (trail_view c.self.inside) _ _ c.add.result c.self.invariant.good c.add.ensures.added refl refl refl refl refl; rooted = c.self.invariant.rooted; low = c.self.invariant.low; decided = c.self.invariant.decided }

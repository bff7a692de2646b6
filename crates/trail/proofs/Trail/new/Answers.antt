use Rattle.std.proofs.Common.{arith}
use Rattle.std.proofs.lemmas.Grind.{common_steps}
use Rattle.trail.proofs.Holding.{held_none}
use Rattle.trail.proofs.Trail.new.Goals as goal

pub invariant_of-result : goal.invariant_of-result
invariant_of-result c = record { good = record { held = held_none _ _ _ _ _ (omega (arith, c.fill.ensures.len, c.requires.values_long)) (omega (arith, c.requires.literals_long)) (omega (arith, c.requires.marks_long)) (λ x. grind (arith, common_steps, c.fill.ensures.after (λ y e. e))); units = c.requires.units }; rooted = λ q h. absurd (omega arith); low = omega arith; decided = λ h. absurd (omega arith) }

use Rattle.trail.proofs.Steps.{falls_put}
use Rattle.trail.proofs.Trail.decide.Goals as goal

pub returns-clause-less : goal.returns-clause-less
returns-clause-less c = falls_put _ _ _ _ c.keeps.ensures c.requires.known c.requires.free c.put.ensures.put

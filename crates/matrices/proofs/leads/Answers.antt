use Rattle.std.proofs.Common.{rules, tests}
use Rattle.matrices.proofs.Ranges.{any_of_range}
use Rattle.matrices.proofs.leads.Goals as goal

pub returns : goal.returns
returns c = any_of_range _ _ c.any.ensures.ran (λ x b q k. search (rules, tests))

use Rattle.std.proofs.Common.{not, ap, ◌∙◌}
use Rattle.matrices.proofs.Fill.{within_is}
use Rattle.matrices.proofs.within.Goals as goal

pub returns : goal.returns
returns c = ap not c.nonempty.ensures ∙ within_is c.args.size.things c.args.one c.args.other c.combined.result c.combined.ensures

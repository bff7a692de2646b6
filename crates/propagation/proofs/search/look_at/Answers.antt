use Rattle.std.proofs.Common.{sym, ◌∙◌, rules}
use borrow.Author.Tests.{eqb-false}
use Rattle.propagation.proofs.Seeing.{not_known}
use Rattle.propagation.proofs.search.look_at.Goals as goal

pub returns-else-fails : goal.returns-else-fails
returns-else-fails c = (not_known _ c.args.other (c.keeps.ensures.held.small _) c.requires.open (eqb-false _ _ (sym c.fails-2.ensures ∙ c.if-fails.false)), search rules)

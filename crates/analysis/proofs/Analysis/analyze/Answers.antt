use Rattle.std.proofs.Common.{rules}
use Rattle.analysis.proofs.Marks.{apart_first}
use Rattle.analysis.proofs.Analysis.analyze.Goals as goal

pub loop-place-init : goal.loop-place-init
loop-place-init c = record { size = search rules; apart = apart_first _ _ _ _ c.keeps.ensures.few c.in_ok-absorb_clause.ensures.absorbed }

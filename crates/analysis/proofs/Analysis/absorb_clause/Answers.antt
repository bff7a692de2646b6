use Rattle.analysis.proofs.Marks.{absorbed_if}
use Rattle.analysis.proofs.Analysis.absorb_clause.Goals as goal

pub returns-clause-absorbed : goal.returns-clause-absorbed
returns-clause-absorbed c =
    let n = c.in_ok-clause.ensures.clause in
    absorbed_if _ _ _ _ _ c.args.except c.absorb.result n.known n.follows c.absorb.ensures.taken

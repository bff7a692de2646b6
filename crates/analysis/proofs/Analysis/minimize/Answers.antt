use Rattle.std.proofs.Common.{◌∙◌, arith}
use Rattle.analysis.proofs.Marks.{met_half}
use Rattle.analysis.proofs.Analysis.minimize.Goals as goal

pub holds-requires : goal.holds-requires
holds-requires c =
    let i = c.self-in-loop-index in
    rw c.trail-trail.ensures (met_half i.inside c.loop-index.self _ _ c.loop-index.index _ _ i.view_is i.invariant (c.loop-index.invariant.size ∙ c.requires.fits) (omega arith) c.false_literal.ensures c.negated-literal.ensures)

pub resolve-requires-clause-known : goal.resolve-requires-clause-known
resolve-requires-clause-known c =
    let i = c.self-in-loop-index in
    met_half i.inside c.loop-index.self _ _ c.loop-index.index _ _ i.view_is i.invariant (c.loop-index.invariant.size ∙ c.requires.fits) (omega arith) c.false_literal.ensures c.negated-literal.ensures

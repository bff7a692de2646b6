use Rattle.std.proofs.Common.{subst, sym}
use Rattle.analysis.specs.Views.{AnalysisView}
use Rattle.analysis.specs.Marking.{Grown, Absorbed}
use Rattle.propagation.specs.Views.{variables_of, formula_of}
use Rattle.analysis.proofs.Marks.{apart_resolved}
use Rattle.analysis.proofs.Analysis.resolve.Goals as goal

pub returns-clause-apart : goal.returns-clause-apart
returns-clause-apart c =
    let s = c.args.search.now in
    apart_resolved (formula_of s) (variables_of s) s.trail.values c.args.self.now.seen c.self.inside.seen.now c.args.literal c.requires.holds
    (subst (λ (a : AnalysisView). Grown c.args.self.now.seen a.seen) (sym c.self.view_is) c.absorb_clause.ensures.grown) c.requires.apart
    (subst (λ (a : AnalysisView). Absorbed (formula_of s) (variables_of s) s.trail.values a.seen c.args.literal) (sym c.self.view_is) c.in_ok-absorb_clause.ensures.absorbed)

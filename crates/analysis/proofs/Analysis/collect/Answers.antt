use Rattle.std.proofs.Common.{subst, sym}
use Rattle.trail.specs.Views.{TrailView, variables_of as variables_on}
use Rattle.propagation.specs.Views.{formula_of}
use Rattle.analysis.specs.Views.{AnalysisView}
use Rattle.analysis.specs.Marking.{Apart}
use Rattle.analysis.proofs.Marks.{gathered_all}
use Rattle.analysis.proofs.Analysis.collect.Goals as goal

pub returns-clause-follows : goal.returns-clause-follows
returns-clause-follows c =
    let s = c.args.search.now in
    gathered_all (formula_of s) (variables_on c.trail.result.now) _ c.trail.result.now.values c.self.inside.seen.now c.self.inside.touched.now _ c.self.inside.count c.self.invariant.noted
    (subst (λ (t : TrailView). Apart (formula_of s) t.values c.self.inside.seen.now) (sym c.trail.ensures) (subst (λ (a : AnalysisView). Apart (formula_of s) s.trail.values a.seen) (sym c.self.view_is) c.requires.apart)) c.in_ok-self-inside.ensures.gathered

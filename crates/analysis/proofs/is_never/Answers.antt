use Rattle.std.proofs.Common.{◌∙◌, sym, arith, eqb-true}
use Rattle.trail.specs.Views.{TrailView}
use Rattle.trail.specs.Trails.{Good}
use Rattle.analysis.proofs.Marks.{never}
use Rattle.analysis.proofs.is_never.Goals as goal

pub returns-then-place-first_decision : goal.returns-then-place-first_decision
returns-then-place-first_decision c e =
    let t : TrailView = c.trail-trail.result.now in
    let good : Good t = c.keeps-2.ensures in
    rw (← c.trail-trail.ensures) (never _ _ t.values t.literals t.marks t.len c.first_decision.result c.place-place.result c.args.literal good.held c.first_decision.ensures.rooted (omega arith) (omega (arith, c.first_decision.ensures.low)) (sym c.literal.ensures.is ∙ eqb-true _ _ e ∙ c.negated.ensures))

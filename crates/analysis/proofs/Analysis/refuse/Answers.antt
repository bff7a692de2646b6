use Rattle.std.proofs.Common.{◌≡◌, ℕ, ◌/◌, subst, ◌<◌, length, ◌∙◌, sym, ap, inr, get_or, arith, eqb-true}
use Rattle.std.proofs.lemmas.List.{length-set, take_more_set, length-take-le}
use Rattle.trail.specs.Views.{TrailView, variables_of as variables_on}
use Rattle.clauses.specs.Formulas.{negation}
use Rattle.propagation.specs.Views.{variables_of}
use Rattle.analysis.specs.declared.Analysis.TheInside.{Inside}
use Rattle.analysis.specs.Keeping.{analysis_view}
use Rattle.analysis.proofs.Refusals.{refusing_more, last_here, refused_if, no_room}
use Rattle.analysis.proofs.Analysis.refuse.Goals as goal

pub returns-then-self-clause-refused : goal.returns-then-self-clause-refused
returns-then-self-clause-refused c =
    let t : TrailView = c.trail-trail.result.now in
    let i = c.loop-place.invariant in
    let long = length-take-le c.loop-place.self-inside.size c.loop-place.self-inside.buffer.now i.room in
    let one : get_or t.marks c.loop-place.place 0 ≡ 1 = eqb-true _ _ (sym c.is_decided.ensures ∙ c.if-not-is_decided.false) in
    rw (← c.trail-trail.ensures) (inr (no_room t.marks t.len c.loop-place.place c.loop-place.self-inside.size _ (omega (arith, long, i.refusing.size)) (omega (arith, c.len-place-end.ensures.is)) one c.if-self.true))

pub loop-place-preserved : goal.loop-place-preserved
loop-place-preserved c =
    let t : TrailView = c.trail-trail.result.now in
    let i = c.loop-place.invariant in
    let one : get_or t.marks c.loop-place.place 0 ≡ 1 = eqb-true _ _ (sym c.is_decided.ensures ∙ c.if-not-is_decided.false) in
    let inside : c.loop-place.self-inside.size < length c.loop-place.self-inside.buffer.now = omega arith in
    let stored = take_more_set c.loop-place.self-inside.buffer.now c.loop-place.self-inside.size c.negated.result inside in
    let small : get_or t.literals c.loop-place.place 0 / 2 < variables_of c.args.search.now = subst (λ (x : ℕ). x / 2 < variables_of c.args.search.now) c.literal.ensures.is (omega (arith, c.literal.ensures.known, ap (λ (t : TrailView). variables_on t) c.trail-trail.ensures)) in
    record {
      seen = i.seen;
      touched = i.touched;
      count = i.count;
      buffer = length-set c.loop-place.self-inside.buffer.now c.loop-place.self-inside.size c.negated.result ∙ i.buffer;
      room = omega (arith, i.room, length-set c.loop-place.self-inside.buffer.now c.loop-place.self-inside.size c.negated.result);
      refusing = rw stored (refusing_more _ _ t.literals t.marks _ c.loop-place.place i.refusing c.negated.result (c.negated.ensures ∙ ap negation c.literal.ensures.is) small one);
      last = last_here t.marks c.loop-place.place one;
    }

pub returns-clause-refused : goal.returns-clause-refused
returns-clause-refused c =
    let i = c.loop-place.invariant in
    let a : Inside = c.loop-place.self-inside in
    refused_if c.args.search.now (analysis_view a) c.loop-place.place c.loop-place.last (omega (arith, c.len-place-end.ensures.is, ap (λ (t : TrailView). t.len) c.trail-trail.ensures)) c.requires.jammed (rw c.trail-trail.ensures at i.refusing) (rw c.trail-trail.ensures at i.last)

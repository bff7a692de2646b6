use Rattle.std.proofs.Common.{ℕ, ◌+◌, ◌∙◌, length, ap, sym, inl, inr, ⊎_elim, subst, arith}
use Rattle.trail.specs.Views.{TrailView, formula_of}
use Rattle.trail.specs.Trails.{SameClauses, AssumedT}
use Rattle.trail.proofs.Assuming.{assumed_none, assumed_later}
use Rattle.trail.proofs.Steps.{same_none, same_on}
use Rattle.solver.specs.Assumptions.{Wished, NoneWith}
use Rattle.solver.proofs.Checks.{true_under, wished_on, falls_anew}
use Rattle.solver.proofs.seek.Goals as goal

pub loop-conflict-preserved-in-Some : goal.loop-conflict-preserved-in-Some
loop-conflict-preserved-in-Some c =
    let i = c.loop-conflict.invariant in
    let p = c.propagate.ensures.onward in
    let t = c.learn.ensures.turned in
    let on = same_on _ _ _ p.same.clauses t.clauses in
    record {
      clauses = same_on _ _ _ i.clauses on;
      assumed = assumed_later _ _ _ _ _ _ _ _ (assumed_later _ _ _ _ _ _ _ _ i.assumed p.later) t.later;
      firm = i.firm;
      force = i.force;
      wished = wished_on _ _ _ _ on i.wished;
      decided = c.learn.ensures.decided ∙ c.propagate.ensures.decided ∙ i.decided;
      phases = c.learn.ensures.phases ∙ ap (λ p. length p.now) c.propagate.ensures.phases ∙ i.phases;
    }

pub loop-conflict-smaller-then-restarts-gt0 : goal.loop-conflict-smaller-then-restarts-gt0
loop-conflict-smaller-then-restarts-gt0 c =
    falls_anew c.loop-conflict.learner.search.trail _ (c.loop-conflict.restarts + c.loop-conflict.force) _ (same_on _ _ _ c.propagate.ensures.onward.same.clauses c.start_again-start.ensures.clauses) (omega arith)

pub loop-conflict-preserved-then-restarts-gt0 : goal.loop-conflict-preserved-then-restarts-gt0
loop-conflict-preserved-then-restarts-gt0 c =
    let i = c.loop-conflict.invariant in
    let r = c.start_again-start.ensures in
    let on = same_on _ _ _ c.propagate.ensures.onward.same.clauses r.clauses in
    record {
      clauses = same_on _ _ _ i.clauses on;
      assumed = assumed_none _ _ _ _ _ r.rooted;
      firm = i.firm;
      force = i.force;
      wished = wished_on _ _ _ _ on i.wished;
      decided = r.decided ∙ c.propagate.ensures.decided ∙ i.decided;
      phases = r.phases ∙ ap (λ p. length p.now) c.propagate.ensures.phases ∙ i.phases;
    }

pub decide_on-requires-clause-assumed : goal.decide_on-requires-clause-assumed
decide_on-requires-clause-assumed c = assumed_later _ _ _ _ _ _ _ _ c.loop-conflict.invariant.assumed c.propagate.ensures.onward.later

pub loop-conflict-smaller-in-Refuted : goal.loop-conflict-smaller-in-Refuted
loop-conflict-smaller-in-Refuted c =
    let e = c.in-Refuted.ensures.says in
    falls_anew c.loop-conflict.learner.search.trail _ (c.loop-conflict.restarts + c.loop-conflict.force) _ (same_on _ _ _ c.propagate.ensures.onward.same.clauses (same_on _ _ _ e.clauses c.begin_anew-start.ensures.same.clauses)) (omega (arith, c.loop-conflict.invariant.firm))

pub loop-conflict-preserved-in-Refuted : goal.loop-conflict-preserved-in-Refuted
loop-conflict-preserved-in-Refuted c =
    let i = c.loop-conflict.invariant in
    let e = c.in-Refuted.ensures.says in
    let b = c.begin_anew-start.ensures in
    let on = same_on _ _ _ c.propagate.ensures.onward.same.clauses e.clauses in
    let w : Wished (formula_of c.decide_on.new.learner.search.trail) c.args.assumptions.now c.args.firm =
    ⊎_elim
    (λ all. inr (subst (λ (k : ℕ). NoneWith (formula_of c.decide_on.new.learner.search.trail) c.args.assumptions.now k) all e.none))
    (λ none. inr none)
    (wished_on _ _ _ _ on i.wished) in
    record {
      clauses = same_on _ _ _ i.clauses (same_on _ _ _ on b.same.clauses);
      assumed = assumed_none _ _ _ _ _ b.rooted;
      firm = omega arith;
      force = c.requires.firm;
      wished = wished_on _ _ _ _ b.same.clauses w;
      decided = b.alone.decided ∙ c.decide_on.ensures.alone.decided ∙ c.propagate.ensures.decided ∙ i.decided;
      phases = b.phases ∙ c.decide_on.ensures.phases ∙ ap (λ p. length p.now) c.propagate.ensures.phases ∙ i.phases;
    }

pub loop-conflict-preserved-in-Decided : goal.loop-conflict-preserved-in-Decided
loop-conflict-preserved-in-Decided c =
    let i = c.loop-conflict.invariant in
    let e = c.in-Decided.ensures.says in
    let on = same_on _ _ _ c.propagate.ensures.onward.same.clauses e.clauses in
    record { clauses = same_on _ _ _ i.clauses on; assumed = e.assumed; firm = i.firm; force = i.force; wished = wished_on _ _ _ _ on i.wished; decided = c.decide_on.ensures.alone.decided ∙ c.propagate.ensures.decided ∙ i.decided; phases = c.decide_on.ensures.phases ∙ ap (λ p. length p.now) c.propagate.ensures.phases ∙ i.phases }

pub returns-then-found-clause-holds : goal.returns-then-found-clause-holds
returns-then-found-clause-holds c _ i h = true_under _ _ (c.in-Complete.ensures.says.holds i (omega (arith, c.loop-conflict.invariant.firm)))

pub returns-then-found-clause-wished : goal.returns-then-found-clause-wished
returns-then-found-clause-wished c _ =
    let e = c.in-Complete.ensures.says in
    let on = subst (λ (t : TrailView). SameClauses c.propagate.new.self.search.trail t) (sym e.same) (same_none c.propagate.new.self.search.trail) in
    ⊎_elim
    (λ all. inl (λ i h. true_under _ _ (e.holds i (omega (arith, all)))))
    (λ none. inr none)
    (wished_on _ _ _ _ (same_on _ _ _ c.propagate.ensures.onward.same.clauses on) c.loop-conflict.invariant.wished)

pub loop-conflict-preserved : goal.loop-conflict-preserved
loop-conflict-preserved c =
    let i = c.loop-conflict.invariant in
    let p = c.propagate.ensures.onward in
    let e = c.in-Complete.ensures.says in
    let t = c.turn_round.ensures.turned in
    let on = same_on _ _ _ p.same.clauses (same_on _ _ _ (subst (λ (t : TrailView). SameClauses c.propagate.new.self.search.trail t) (sym e.same) (same_none c.propagate.new.self.search.trail)) t.clauses) in
    record {
      clauses = same_on _ _ _ i.clauses on;
      assumed = assumed_later _ _ _ _ _ _ _ _ (subst (λ (t : TrailView). AssumedT c.args.assumptions.now c.loop-conflict.force t) (sym e.same) (assumed_later _ _ _ _ _ _ _ _ i.assumed p.later)) t.later;
      firm = i.firm;
      force = i.force;
      wished = wished_on _ _ _ _ on i.wished;
      decided = c.turn_round.ensures.decided ∙ c.decide_on.ensures.alone.decided ∙ c.propagate.ensures.decided ∙ i.decided;
      phases = c.turn_round.ensures.phases ∙ c.decide_on.ensures.phases ∙ ap (λ p. length p.now) c.propagate.ensures.phases ∙ i.phases;
    }

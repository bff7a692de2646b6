use Rattle.std.proofs.Common.{◌-◌, ◌∙◌, arith}
use Rattle.clauses.proofs.Growing.{grown_same, grown_by, grown_on}
use Rattle.descent.proofs.Settling.{settled_none, settled_more, settled_all, settled_same, room_less, room_same}
use Rattle.descent.proofs.descend.Goals as goal

pub loop-place-init : goal.loop-place-init
loop-place-init c =
    let r = c.requires in
    let f = c.fix.ensures in
    record {
      problem = f.problem;
      grown = grown_by _ _ _ f.added;
      size = r.size;
      room = room_less _ _ _ (c.args.high - c.args.low) _ f.added r.units (omega (arith, r.range));
      settled = settled_more _ _ _ _ _ c.args.solver.now.trail c.fix.new.self.trail (settled_none _ _ _ r.model) r.lowest (omega arith) c.literal_at.ensures f.added f.problem;
      questions = omega arith;
      decided = f.decided;
      phases = f.phases;
    }

pub loop-place-preserved : goal.loop-place-preserved
loop-place-preserved c =
    let i = c.loop-place.invariant in
    let e = c.lower-questions.ensures in
    let f = c.fix-in-loop-place.ensures in
    record {
      problem = f.problem ∙ e.clauses.problem ∙ i.problem;
      grown = grown_on _ _ _ i.grown (grown_on _ _ _ (grown_same _ _ e.clauses.units) (grown_by _ _ _ f.added));
      size = c.lower-questions.auto.values ∙ i.size;
      room = room_less _ _ _ (c.args.high - c.loop-place.place) _ f.added (room_same _ _ _ e.clauses i.room) (omega (arith, c.requires.range));
      settled = settled_more _ _ _ _ _ c.lower-questions.new.solver.trail c.fix-in-loop-place.new.self.trail (settled_same _ _ _ _ _ _ _ e.clauses i.settled e.model) e.lowest (omega (arith, i.questions)) c.literal_at-in-loop-place.ensures f.added f.problem;
      questions = omega (arith, i.questions, e.few);
      decided = f.decided ∙ e.decided ∙ i.decided;
      phases = f.phases ∙ e.phases ∙ i.phases;
    }

pub returns-clause-first : goal.returns-clause-first
returns-clause-first c = settled_all _ _ _ _ _ _ (omega (arith, c.requires.range)) c.loop-place.invariant.settled

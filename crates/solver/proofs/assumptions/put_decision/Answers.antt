use Rattle.std.proofs.Common.{arith, subst, refl}
use Rattle.trail.specs.Trails.{Good}
use Rattle.trail.proofs.Holding.{room_for_one}
use Rattle.trail.proofs.Assuming.{assumed_more}
use Rattle.solver.proofs.assumptions.put_decision.Goals as goal

pub returns-clause-more : goal.returns-clause-more
returns-clause-more c =
    let e = c.decide.ensures in
    let h = (subst Good c.trail.ensures c.keeps.ensures).held in
    record {
      clauses = e.same.clauses;
      assumed = assumed_more _ _ _ _ _ _ _ _ _ (let r = room_for_one _ _ _ _ _ _ _ _ _ _ 0 h c.requires.free c.requires.known refl refl refl in omega (arith, h.literals_room)) e.literals e.marks e.len c.requires.assumed c.requires.order;
      less = e.less;
    }

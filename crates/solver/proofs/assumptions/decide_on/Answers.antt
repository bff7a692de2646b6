use Rattle.trail.proofs.Assuming.{refuted}
use Rattle.trail.proofs.Steps.{same_none}
use Rattle.solver.proofs.assumptions.decide_on.Goals as goal

pub returns-in-Refuted-clause-says : goal.returns-in-Refuted-clause-says
returns-in-Refuted-clause-says c =
    let x = c.in-Refuted.ensures.says in
    let e = c.next_assumption.ensures in
    record { clauses = same_none _; none = λ α m all. refuted _ _ _ _ _ _ _ _ x.at e.good.held c.requires.assumed x.inside x.is_false α m all }

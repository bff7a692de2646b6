use Rattle.std.proofs.Common.{length, subst, rules, arith}
use Rattle.clauses.specs.Formulas.{Models}
use Rattle.clauses.specs.Stores.{Parsed}
use Rattle.solver.specs.Values.{assignment}
use Rattle.solver.specs.Assumptions.{NoneWith}
use Rattle.sat.proofs.Answering.{under_ok}
use Rattle.sat.proofs.ask_under.Goals as goal

pub returns-clause-answer : goal.returns-clause-answer
returns-clause-answer c =
    let p : Parsed (length c.args.values.now) c.args.spans.now c.args.words.now c.in_ok-problem.problem = search rules in
    let e = c.ask_stored-found.ensures in
    under_ok _ _ _ _ _ _ c.ask_stored-found.result
    (record { few = omega arith; clauses = p.clauses; known = search rules; enough = omega (arith, p.long) })
    (λ y. subst (λ f. Models f (assignment c.ask_stored-found.new.values)) p.formula (e.model y))
    e.holds
    (λ n. subst (λ f. NoneWith f c.args.assumptions.now (length c.args.assumptions.now)) p.formula (e.none n))
    e.same

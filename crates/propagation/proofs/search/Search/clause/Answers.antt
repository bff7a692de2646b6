use Rattle.std.proofs.Common.{◌∙◌, length, ap, arith}
use Rattle.propagation.specs.Keeping.{search_view}
use Rattle.propagation.proofs.Steps.{numbered_problem, numbered_learned}
use Rattle.propagation.proofs.search.Search.clause.Goals as goal

pub returns-then-number-base-clause-clause : goal.returns-then-number-base-clause-clause
returns-then-number-base-clause-clause c =
    let e = c.clause.ensures in
    rw (← c.self.view_is) (numbered_problem (search_view c.self.inside) c.args.number _ _ c.problem-problem.ensures.is (omega arith) e.is e.known)

pub returns-then-number-base-2-clause-clause : goal.returns-then-number-base-2-clause-clause
returns-then-number-base-2-clause-clause c =
    let e = c.clause-then-number-base-2.ensures in
    rw (← c.self.view_is) (numbered_learned (search_view c.self.inside) c.args.number c.len-base.result _ c.self.invariant (c.len-base.ensures ∙ ap (λ p. length p.formula) c.problem-problem.ensures.is) (omega arith) (omega arith) e.is e.known)

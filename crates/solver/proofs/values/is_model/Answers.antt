use Rattle.std.proofs.Common.{ℕ, ◌<◌, List, length, sym, ap, ◌∙◌, subst}
use Rattle.clauses.specs.Views.{ClausesView}
use Rattle.clauses.specs.Stores.{Follows, clause_at}
use Rattle.trail.specs.Views.{formula_of}
use Rattle.trail.proofs.Steps.{own_first}
use Rattle.solver.proofs.Checks.{jammed, own_second}
use Rattle.solver.proofs.values.is_model.Goals as goal

pub returns-then-are_satisfied-clause-jammed : goal.returns-then-are_satisfied-clause-jammed
returns-then-are_satisfied-clause-jammed c e =
    let t = c.args.trail.now in
    jammed t c.clauses.result.formula c.keeps.ensures c.requires
    (subst (λ (g : List (List ℕ)). (k : ℕ) → k < length g → Follows (formula_of t) (clause_at g k)) (sym (c.clauses.ensures.formula ∙ ap (λ u. u.formula) c.units.ensures.is)) (own_second t.problem.formula t.units.formula))
    (c.are_satisfied-then-are_satisfied.ensures.no e)

pub returns-else-are_satisfied-clause-jammed : goal.returns-else-are_satisfied-clause-jammed
returns-else-are_satisfied-clause-jammed c e =
    let t = c.args.trail.now in
    jammed t c.problem.result.now.formula c.keeps.ensures c.requires
    (subst (λ (p : ClausesView). (k : ℕ) → k < length p.formula → Follows (formula_of t) (clause_at p.formula k)) (sym c.problem.ensures.is) (own_first t.problem.formula t.units.formula))
    (c.are_satisfied.ensures.no e)

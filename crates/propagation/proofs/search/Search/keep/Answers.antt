use Rattle.std.proofs.Common.{subst, sym}
use Rattle.clauses.specs.Stores.{Follows}
use Rattle.propagation.specs.Views.{SearchView, formula_of}
use Rattle.propagation.specs.Keeping.{search_view}
use Rattle.propagation.proofs.Steps.{ready_kept}
use Rattle.propagation.proofs.search.Search.keep.Goals as goal

pub invariant_of-self : goal.invariant_of-self
invariant_of-self c =
    let r = ready_kept (search_view c.self.inside) _ c.args.clause.now c.add.result c.self.invariant (subst (λ (s : SearchView). Follows (formula_of s) c.args.clause.now) (sym c.self.view_is) c.requires) c.add.ensures.added in
    record { sound = r.sound; known = r.known; causes = r.causes; few = r.few }

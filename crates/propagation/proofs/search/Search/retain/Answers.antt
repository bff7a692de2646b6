use Rattle.std.proofs.Common.{◌∙◌, subst}
use Rattle.clauses.specs.Retaining.{SomeOf}
use Rattle.clauses.proofs.Retaining.{sound_retained}
use Rattle.propagation.specs.Views.{SearchView}
use Rattle.propagation.proofs.search.Search.retain.Goals as goal

pub invariant_of-self : goal.invariant_of-self
invariant_of-self g c =
    let i = c.self.invariant in
    let e = c.retain.ensures in
    record { sound = sound_retained _ _ _ i.sound e.some; known = e.memory.variables ∙ i.known; causes = i.causes; few = i.few }

pub returns-clause-some : goal.returns-clause-some
returns-clause-some g c = subst (λ (s : SearchView). SomeOf s.learned.formula c.retain.new.self.formula) c.self.view_is c.retain.ensures.some

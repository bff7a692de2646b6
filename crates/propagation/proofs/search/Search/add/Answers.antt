use Rattle.propagation.specs.Keeping.{search_view}
use Rattle.propagation.proofs.Steps.{ready_added}
use Rattle.propagation.proofs.search.Search.add.Goals as goal

pub invariant_of-self : goal.invariant_of-self
invariant_of-self c =
    let r = ready_added (search_view c.self.inside) c.add.new.self _ c.add.result c.self.invariant c.add.ensures.added c.add.ensures.problem in
    record { sound = r.sound; known = r.known; causes = r.causes; few = r.few }

use Rattle.clauses.proofs.ordered.OrderedStore.retain.Goals as goal

pub returns-clause-wanted : goal.returns-clause-wanted
returns-clause-wanted g c = rw (← c.self.view_is) (c.retain.ensures.wanted c.self.invariant)

pub returns-clause-some : goal.returns-clause-some
returns-clause-some g c = rw (← c.self.view_is) c.retain.ensures.some

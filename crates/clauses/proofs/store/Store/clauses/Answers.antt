use Rattle.std.proofs.Common.{◌∙◌}
use Rattle.std.proofs.lemmas.List.{get_or-take, length-take-le}
use Rattle.clauses.proofs.Copies.{formula_used}
use Rattle.clauses.proofs.store.Store.clauses.Goals as goal

pub returns-clause-formula : goal.returns-clause-formula
returns-clause-formula c = rw (← c.self.view_is) (c.new.ensures.formula ∙ formula_used c.self.inside.variables c.self.inside.spans.now c.self.inside.words.now _ c.self.inside.count c.self.inside.used c.self.invariant.stored (let r = c.self.invariant.stored.words_room in length-take-le c.self.inside.used c.self.inside.words.now r) (λ p h. get_or-take c.self.inside.used c.self.inside.words.now p 0 h))

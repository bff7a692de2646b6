use Rattle.std.proofs.Common.{subst, sym}
use Rattle.std.specs.Prelude.{OnErr}
use Rattle.trail.specs.Trails.{Jammed, NoneModels}
use Rattle.propagation.specs.Views.{SearchView, formula_of}
use Rattle.propagation.proofs.search.Search.flip.Goals as goal

pub flip-requires : goal.flip-requires
flip-requires c = record { jammed = subst (λ (s : SearchView). Jammed s.trail) (sym c.self.view_is) c.requires.jammed }

pub returns-clause-none : goal.returns-clause-none
returns-clause-none c = subst (λ (s : SearchView). OnErr c.flip.result (NoneModels (formula_of s))) c.self.view_is c.flip.ensures.none

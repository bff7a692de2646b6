use Rattle.std.proofs.Common.{subst, sym}
use Rattle.std.specs.Prelude.{OnErr}
use Rattle.trail.specs.Trails.{Jammed, NoneModels}
use Rattle.propagation.specs.Views.{SearchView, formula_of}
use Rattle.conflicts.specs.Views.{LearnerView}
use Rattle.conflicts.proofs.Learner.learn.Goals as goal

pub go_on-requires-clause-jammed : goal.go_on-requires-clause-jammed
go_on-requires-clause-jammed c = subst (λ (s : SearchView). Jammed s.trail) (sym c.derive.ensures.search) (subst (λ (l : LearnerView). Jammed l.search.trail) (sym c.self.view_is) c.requires)

pub turn_round-requires : goal.turn_round-requires
turn_round-requires c = subst (λ (s : SearchView). Jammed s.trail) (sym c.derive.ensures.search) (subst (λ (l : LearnerView). Jammed l.search.trail) (sym c.self.view_is) c.requires)

pub returns-in-Some-clause-none : goal.returns-in-Some-clause-none
returns-in-Some-clause-none c = subst (λ (l : LearnerView). OnErr c.go_on.result (NoneModels (formula_of l.search))) c.self.view_is (subst (λ (s : SearchView). OnErr c.go_on.result (NoneModels (formula_of s))) c.derive.ensures.search c.go_on.ensures.none)

pub returns-in-None-clause-none : goal.returns-in-None-clause-none
returns-in-None-clause-none c = subst (λ (l : LearnerView). OnErr c.turn_round.result (NoneModels (formula_of l.search))) c.self.view_is (subst (λ (s : SearchView). OnErr c.turn_round.result (NoneModels (formula_of s))) c.derive.ensures.search c.turn_round.ensures.none)

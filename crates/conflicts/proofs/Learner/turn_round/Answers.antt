use Rattle.std.proofs.Common.{subst, sym}
use Rattle.std.specs.Prelude.{OnErr}
use Rattle.trail.specs.Trails.{Jammed, NoneModels}
use Rattle.propagation.specs.Views.{formula_of}
use Rattle.conflicts.specs.Views.{LearnerView}
use Rattle.conflicts.proofs.Learner.turn_round.Goals as goal

pub refuse-requires-clause-jammed : goal.refuse-requires-clause-jammed
refuse-requires-clause-jammed c = subst (λ (l : LearnerView). Jammed l.search.trail) (sym c.self.view_is) c.requires

pub flip_last-requires : goal.flip_last-requires
flip_last-requires c = subst (λ (l : LearnerView). Jammed l.search.trail) (sym c.self.view_is) c.requires

pub returns-in_default-clause-none : goal.returns-in_default-clause-none
returns-in_default-clause-none c = subst (λ (l : LearnerView). OnErr c.flip_last.result (NoneModels (formula_of l.search))) c.self.view_is c.flip_last.ensures.none

pub go_on-requires-clause-jammed : goal.go_on-requires-clause-jammed
go_on-requires-clause-jammed c = subst (λ (l : LearnerView). Jammed l.search.trail) (sym c.self.view_is) c.requires

pub returns-clause-none : goal.returns-clause-none
returns-clause-none c = subst (λ (l : LearnerView). OnErr c.go_on.result (NoneModels (formula_of l.search))) c.self.view_is c.go_on.ensures.none

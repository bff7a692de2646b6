use Rattle.std.proofs.Common.{subst, rules}
use Rattle.std.specs.Prelude.{OnErr}
use Rattle.trail.specs.Trails.{NoneModels}
use Rattle.propagation.specs.Views.{formula_of}
use Rattle.conflicts.specs.Views.{LearnerView}
use Rattle.conflicts.proofs.Learner.go_on.Goals as goal

pub returns-in_err-go_back-clause-none : goal.returns-in_err-go_back-clause-none
returns-in_err-go_back-clause-none c = subst (λ (l : LearnerView). OnErr c.from_residual.result (NoneModels (formula_of l.search))) c.self.view_is (search rules)

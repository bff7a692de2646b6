use Rattle.std.proofs.Common.{ℕ, ◌/◌, List, [], ◌∷◌, get_or, sym, ap, ◌∙◌, subst, eqb-true}
use Rattle.clauses.specs.Stores.{Added, Known}
use Rattle.trail.specs.Trails.{Good}
use Rattle.trail.specs.Views.{TrailView}
use Rattle.solver.proofs.Fixing.{added, known_unit, new_true, never_fixed}
use Rattle.solver.proofs.fix_unit.Goals as goal
use Rattle.solver.proofs.fix_unit.Goals.{After-add}

-- there was room, so the clause is added
module _ (c : After-add) where
  pub good : Good c.args.search.now.trail
  good = subst Good c.trail.ensures c.keeps.ensures

  pub is_added : Added (c.args.literal ∷ []) c.args.search.now.trail.units c.add.new.self.trail.units
  is_added = added _ _ _ c.add.result (subst (λ (v : ℕ). Known v (c.args.literal ∷ [])) (sym good.units) (known_unit _ c.args.literal c.requires.known)) c.requires.fits c.add.ensures.added

pub returns-then-fails-clause-none : goal.returns-then-fails-clause-none
returns-then-fails-clause-none c =
    let d = (goal.at.returns-then-fails-clause-none c).After-add in
    never_fixed c.args.search.now.trail c.add.new.self.trail c.args.literal (is_added d) c.add.ensures.problem (good d) c.requires.rooted
    (sym (ap (λ (xs : List ℕ). get_or xs (c.args.literal / 2) 0) (ap (λ (t : TrailView). t.values) c.trail-2.ensures ∙ c.add.ensures.values)) ∙ eqb-true _ _ (sym c.fails.ensures ∙ c.if-fails.true))

pub imply-requires-clause-implied : goal.imply-requires-clause-implied
imply-requires-clause-implied c α m _ =
    let d = (goal.at.imply-requires-clause-implied c).After-add in
    new_true c.args.search.now.trail c.add.new.self.trail c.args.literal (is_added d) c.add.ensures.problem α m

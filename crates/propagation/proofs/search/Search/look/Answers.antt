use Rattle.std.proofs.Common.{◌/◌, ◌<◌, subst, arith}
use Rattle.trail.specs.Trails.{Good}
use Rattle.propagation.specs.Views.{SearchView, variables_of}
use Rattle.propagation.specs.Looking.{LookSays}
use Rattle.propagation.proofs.Steps.{found}
use Rattle.propagation.proofs.search.Search.look.Goals as goal

pub returns : goal.returns
returns c =
    found c.args.self.now c.args.number c.args.other _ c.look_at.result
    (subst (λ (s : SearchView). Good s.trail) c.self.view_is c.keeps.ensures)
    c.in_ok-clause.ensures.clause.inside
    c.in_ok-clause.ensures.clause.follows
    (subst (λ (s : SearchView). c.args.other / 2 < variables_of s) c.self.view_is (omega arith))
    (subst (λ (s : SearchView). LookSays (variables_of s) s.trail.values c.in_ok-clause.clause.now c.args.other c.look_at.result) c.self.view_is c.look_at.ensures)

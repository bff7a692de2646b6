use Rattle.std.proofs.Common.{◌<◌, length, subst, sym, arith, rules}
use Rattle.trail.specs.Views.{TrailView, variables_of}
use Rattle.trail.specs.Trails.{Good}
use Rattle.trail.proofs.Steps.{room_here, good_put, rooted_put, low_put, decided_put}
use Rattle.trail.proofs.Trail.put.Goals as goal

module _ (c : goal.After-self) where
  within : c.self.inside.len < c.self.inside.problem.variables
  within = subst (λ (t : TrailView). t.len < variables_of t) (sym c.self.view_is) (room_here c.args.self.now c.args.literal (subst Good c.self.view_is c.self.invariant.good) c.requires.known c.requires.free)

pub bounds-self-inside-self-inside : goal.bounds-self-inside-self-inside
bounds-self-inside-self-inside c = omega (arith, within c, c.self.invariant.good.held.literals_room)

pub bounds-self-inside-self-inside-2 : goal.bounds-self-inside-self-inside-2
bounds-self-inside-self-inside-2 c = omega (arith, within c, c.self.invariant.good.held.marks_room)

module _ (c : goal.After-self-2-1) where
  inside : c.self.inside.len < length c.self.inside.marks.now
  inside =
      let w : c.self.inside.len < c.self.inside.problem.variables = subst (λ (t : TrailView). t.len < variables_of t) (sym c.self.view_is) (room_here c.args.self.now c.args.literal (subst Good c.self.view_is c.self.invariant.good) c.requires.known c.requires.free) in
      omega (arith, w, c.self.invariant.good.held.marks_room)

pub invariant_of-self : goal.invariant_of-self
invariant_of-self c =
    let i = c.self.invariant in
    let a = c.root_after-self-inside.ensures in
    record {
      good = good_put c.args.self.now _ c.args.literal c.args.mark (subst Good c.self.view_is i.good) c.requires.known c.requires.free (search rules) c.requires.implied;
      rooted = rooted_put _ _ _ i.rooted i.low i.decided c.args.mark _ (inside c) a;
      low = low_put _ _ _ i.rooted i.low i.decided c.args.mark _ (inside c) a;
      decided = decided_put _ _ _ i.rooted i.low i.decided c.args.mark _ (inside c) a;
    }

pub returns-clause-room : goal.returns-clause-room
returns-clause-room c = room_here c.args.self.now c.args.literal (subst Good c.self.view_is c.self.invariant.good) c.requires.known c.requires.free

use Rattle.std.proofs.Common.{sym, subst}
use Rattle.propagation.specs.Keeping.{IsReady}
use Rattle.propagation.proofs.search.Search.visit.Goals as goal
use Rattle.propagation.proofs.search.Search.visit.Goals.{in-Stays, in-Moves}

-- what a search keeps says nothing of who watches which clause
pub invariant_of-self : goal.invariant_of-self
invariant_of-self c =
    let r = c.self-in-loop-2.invariant in
    elim c.match-examine.branch [
      | in-Stays w ↦ subst IsReady (sym w.self-inside-is) r
      | in-Moves w ↦ subst IsReady (sym w.self-inside-is) (record { sound = r.sound; known = r.known; causes = r.causes; few = r.few })
    ]

use Rattle.std.proofs.Common.{◌∙◌}
use Rattle.std.proofs.lemmas.List.{length_push}
use Rattle.gates.proofs.Clauses.{claimed_more}
use Rattle.gates.proofs.circuit.Circuit.write_claims.Goals as goal

pub loop-claim-preserved : goal.loop-claim-preserved
loop-claim-preserved c =
    let i = c.loop-claim.invariant in
    let h = c.in-Some.ensures.steps in
    let more = length_push c.loop-claim.yielded c.in-Some.claim in
    record {
      claimed = rw more (claimed_more _ _ _ c.args.self.now.sound.claims_room _ _ _ i.claimed _ _ h.1.0 (h.1.1 ∙ i.three) _ c.in_ok-write_clause.ensures.writes);
      three = h.0 ∙ i.three;
      in_order = λ o. c.in_ok-write_clause.ensures.in_order (i.in_order o);
    }

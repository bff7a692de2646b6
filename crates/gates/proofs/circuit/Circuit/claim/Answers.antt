use Rattle.std.proofs.Common.{refl, arith}
use Rattle.gates.proofs.Triples.{put}
use Rattle.gates.proofs.Claims.{meets_more, meets_fewer}
use Rattle.gates.proofs.circuit.Circuit.claim.Goals as goal

pub returns : goal.returns
returns c =
    let w = put c.args.self.now.claims.now c.copy_from_slice.new.self c.args.self.now.claimed _ c.args.a c.args.b c.args.c (omega arith) (omega arith) c.copy_from_slice.ensures.after in
    record { base = refl; words = refl; count = refl; size = w.size; counts = refl; meets = meets_more _ _ _ _ _ _ w; met = meets_fewer _ _ _ _ _ _ w }

use Rattle.std.proofs.Common.{refl, rules, arith}
use Rattle.sat.proofs.Answering.{first_moved, first_post}
use Rattle.sat.proofs.first.Goals as goal

pub returns-clause-says : goal.returns-clause-says
returns-clause-says c =
    first_post _ c.args.spans.now c.args.words.now c.args.count c.args.used (omega arith) (omega arith) c.args.low c.args.high _ _ _ c.first_of.result refl (omega arith) (omega arith)
    (first_moved _ _ _ _ _ _ _ _ c.args.low c.args.high _ _ _ c.first_of.result (search rules) (search rules) (search rules) (search rules) c.first_of.ensures)

use Rattle.std.proofs.Common.{refl, arith}
use Rattle.descriptions.proofs.Operands.{depth_small}
use Rattle.descriptions.proofs.Sentences.{no_sentence_there, not_whole, whole}
use Rattle.descriptions.proofs.whole.outline_of.Goals as goal

pub returns-in_err-extent : goal.returns-in_err-extent
returns-in_err-extent c =
    rw c.from_residual-in_err-extent.ensures
    (no_sentence_there c.args.description.now c.in_ok-relations.relations c.in_ok-relations.ensures.1 _ (λ e n. n) c.in_err-extent.ensures)

pub returns-then-extent-description : goal.returns-then-extent-description
returns-then-extent-description c =
    record {
      description = _;
      reads = whole c.args.description.now c.in_ok-relations.relations c.in_ok-relations.ensures.1 c.in_ok-extent.extent.end _ (omega arith) (omega arith) (omega arith) c.in_ok-extent.ensures c.if-extent-description.true;
      relations = refl;
      depth = c.in_ok-extent.ensures.says;
    }

pub returns-else-extent-description : goal.returns-else-extent-description
returns-else-extent-description c =
    not_whole c.args.description.now c.in_ok-relations.relations c.in_ok-relations.ensures.1 c.in_ok-extent.extent.end _ c.in_ok-extent.ensures c.if-extent-description.false

pub invariant_of-result : goal.invariant_of-result
invariant_of-result c = record { few = omega arith; shallow = depth_small _ _ _ c.in_ok-extent.extent c.in_ok-extent.ensures }

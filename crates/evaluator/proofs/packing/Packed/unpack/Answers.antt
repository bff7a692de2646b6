use Rattle.std.proofs.Common.{◌∙◌, arith}
use Rattle.std.proofs.lemmas.List.{length-take-le}
use Rattle.evaluator.proofs.Pictures.{writing_all}
use Rattle.evaluator.proofs.packing.Packed.unpack.Goals as goal

pub returns : goal.returns
returns c =
    let l = length-take-le c.bits.result c.args.out.now (omega (arith, c.bits.ensures.0, c.requires)) in
    writing_all c.args.self.now c.args.out.now c.loop-place.bit-items c.bits.result c.loop-place.place c.bits.ensures.0 (c.loop-place.auto.bit-items ∙ l) (omega (arith, c.loop-place-test.false, l)) c.loop-place.invariant

use Rattle.std.proofs.Common.{length, get_or, ap, ◌∙◌, arith}
use Rattle.evaluator.proofs.Pictures.{length_bits, bits_small, reading_none, reading_all}
use Rattle.evaluator.proofs.packing.Packed.pack.Goals as goal

pub returns-then-bits : goal.returns-then-bits
returns-then-bits c n m q l e = let k = ap length e ∙ length_bits q in grind (arith, c.in_ok-shape.ensures)

pub loop-place-init : goal.loop-place-init
loop-place-init c = reading_none _ _ _

pub returns-then-bit-gt1 : goal.returns-then-bit-gt1
returns-then-bit-gt1 c n m q l e =
    let small = bits_small q c.loop-place.place in
    let same = ap (λ s. get_or s c.loop-place.place 0) e in
    omega arith

pub returns : goal.returns
returns c = reading_all c.in_ok-shape.shape c.args.relations c.args.things c.in_ok-shape.ensures.0 c.in_ok-shape.ensures.1 c.args.bits.now c.loop-place.words c.loop-place.place (omega arith) (omega arith) _ c.loop-place.invariant

use Rattle.std.proofs.Common.{◌+◌, arith}
use Rattle.leaders.proofs.Bounds.{source_inside}
use Rattle.leaders.proofs.Chaining.{chained_none, chained_skip, chained_link, chained_is, chain_broken, chain_whole}
use Rattle.leaders.proofs.chain.Goals as goal
use Rattle.leaders.proofs.chain.Goals.{then-place-there+in_ok-smaller, else-place-there}

pub loop-place-init : goal.loop-place-init
loop-place-init c = (chained_none c.args.circuit.now c.args.shape.size.things c.args.swap.one c.args.swap.other, omega arith)

pub bit_at-requires-then-place-there : goal.bit_at-requires-then-place-there
bit_at-requires-then-place-there c = omega (arith, source_inside c.args.shape.relations c.args.shape.size.things c.args.swap.one c.args.swap.other c.loop-place.place c.source_of-there.result c.args.swap.apart c.requires.inside (omega (arith, c.bits-place-end.ensures.0)) c.source_of-there.ensures, c.bits-place-end.ensures.0, c.bits-place-end.ensures.1)

pub link-requires-clause-there : goal.link-requires-clause-there
link-requires-clause-there c = omega (arith, source_inside c.args.shape.relations c.args.shape.size.things c.args.swap.one c.args.swap.other c.loop-place.place c.source_of-there.result c.args.swap.apart c.requires.inside (omega (arith, c.bits-place-end.ensures.0)) c.source_of-there.ensures, c.bit_at-then-place-there.ensures, c.loop-place.invariant.0.extends.base, c.requires.drawn)

pub returns-in_err-smaller : goal.returns-in_err-smaller
returns-in_err-smaller c =
    rw c.from_residual.ensures (chain_broken c.args.circuit.now c.loop-place.circuit c.args.shape.size.things c.args.swap.one c.args.swap.other c.loop-place.place c.loop-place.smaller c.loop-place.invariant.0
    c.link.new.circuit c.source_of-there.result c.bit_at.result c.bit_at-then-place-there.result c.source_of-there.ensures c.if-place-there.true c.bit_at.ensures c.bit_at-then-place-there.ensures
    c.in_err-smaller.ensures.linked c.args.shape.relations c.args.swap.apart c.requires.inside (omega (arith, c.bits-place-end.ensures.0)) c.in_err-smaller.ensures)

pub loop-place-preserved : goal.loop-place-preserved
loop-place-preserved c =
    elim c.if-place-there.branch [
      | then-place-there+in_ok-smaller w ↦
          chained_is c.args.circuit.now w.link.new.circuit c.if-place-there.circuit c.args.shape.size.things c.args.swap.one c.args.swap.other (c.loop-place.place + 1) w.in_ok-smaller.smaller c.if-place-there.smaller w.circuit-is w.smaller-is
          (chained_link c.args.circuit.now c.loop-place.circuit c.args.shape.size.things c.args.swap.one c.args.swap.other c.loop-place.place c.loop-place.smaller c.loop-place.invariant.0
          w.link.new.circuit c.source_of-there.result w.bit_at.result w.bit_at-then-place-there.result c.source_of-there.ensures w.if-place-there.true w.bit_at.ensures w.bit_at-then-place-there.ensures
          w.in_ok-smaller.smaller w.in_ok-smaller.ensures)
      | else-place-there w ↦
          chained_is c.args.circuit.now c.loop-place.circuit c.if-place-there.circuit c.args.shape.size.things c.args.swap.one c.args.swap.other (c.loop-place.place + 1) c.loop-place.smaller c.if-place-there.smaller w.circuit-is w.smaller-is
          (chained_skip c.args.circuit.now c.loop-place.circuit c.args.shape.size.things c.args.swap.one c.args.swap.other c.loop-place.place c.loop-place.smaller c.loop-place.invariant.0
          (omega (arith, c.source_of-there.ensures, w.if-place-there.false)))
    ]

pub returns : goal.returns
returns c = chain_whole c.args.circuit.now c.loop-place.circuit c.args.shape.size.things c.args.swap.one c.args.swap.other c.loop-place.place c.loop-place.smaller c.loop-place.invariant.0 c.args.shape.relations c.args.swap.apart c.requires.inside (omega (arith, c.bits-place-end.ensures.0))

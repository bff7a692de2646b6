use Rattle.std.proofs.Common.{◌*◌, mul-one, arith}
use Rattle.tables.proofs.Filling.{adds_on, cost_step}
use Rattle.tables.proofs.Ways.{via_on, via_all}
use Rattle.tables.proofs.operators.closure.Goals as goal

pub loop-thing-preserved : goal.loop-thing-preserved
loop-thing-preserved c = (
  adds_on (c.loop-thing.thing * (c.args.size.things * c.args.size.things)) (c.args.size.things * c.args.size.things * 1) _ c.loop-thing.invariant.0 c.through.ensures.adds (omega (arith, cost_step c.loop-thing.thing (c.args.size.things * c.args.size.things), mul-one (c.args.size.things * c.args.size.things))),
  via_on c.args.size.things c.loop-thing.thing c.args.one.now c.loop-thing.table c.in_ok-table.table c.through.ensures.adds.grew c.loop-thing-test.true c.loop-thing.invariant.1 c.in_ok-table.ensures.came,
)

pub returns-clause-came : goal.returns-clause-came
returns-clause-came c = via_all c.args.size.things c.loop-thing.thing c.args.one.now _ (omega arith) c.loop-thing.invariant.1

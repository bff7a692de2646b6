use Rattle.std.proofs.Common.{◌&&◌, refl, arith}
use Rattle.clauses.specs.Formulas.{value}
use Rattle.gates.proofs.Gates.{adds_none}
use Rattle.tables.proofs.Filling.{adds_on, false_gives, chain_on}
use Rattle.tables.proofs.chains.some_both.Goals as goal

pub loop-number-init : goal.loop-number-init
loop-number-init g c = let some = c.args.circuit.now.sound.some in (adds_none 0, (omega arith, λ x y p. false_gives some))

pub loop-number-preserved : goal.loop-number-preserved
loop-number-preserved g c =
    let i = c.loop-number.invariant in
    let w = c.in_ok-found.ensures.came in (
      adds_on c.loop-number.number 1 _ i.0 c.gate.ensures.adds (omega arith),
      (
        w.low,
        λ x y p.
            (let e = p c.loop-number.number _ c.loop-number-test.true c.both-x.ensures in
            chain_on c.loop-number.number _ _ _ _ (λ α k. value α (x k) && value α (y k)) c.gate.ensures.adds.grew (i.1.1 x y p) (λ α o. rw (e.0, e.1) refl) w),
      ),
    )

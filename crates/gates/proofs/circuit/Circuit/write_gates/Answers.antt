use Rattle.std.proofs.Common.{arith}
use Rattle.gates.proofs.Gates.{inputs_before}
use Rattle.gates.proofs.Clauses.{valued_more}
use Rattle.gates.proofs.circuit.Circuit.write_gates.Goals as goal

pub write_gate-requires-clause-p : goal.write_gate-requires-clause-p
write_gate-requires-clause-p c = let b = inputs_before _ _ _ _ c.args.self.now.sound.before c.loop-gate-test.true in omega (arith, b.0, c.at-inputs.ensures.p, c.loop-gate.invariant.writes.memory.variables)

pub loop-gate-preserved : goal.loop-gate-preserved
loop-gate-preserved c =
    let p = c.at-inputs.ensures.p in let x = c.at-inputs.ensures.x in let y = c.at-inputs.ensures.y in
    record {
      writes = valued_more _ _ _ _ _ _ c.loop-gate.invariant.writes (rw (← p, ← x, ← y) c.in_ok-write_gate.ensures.writes);
      in_order = λ o. c.in_ok-write_gate.ensures.in_order (c.loop-gate.invariant.in_order o);
    }

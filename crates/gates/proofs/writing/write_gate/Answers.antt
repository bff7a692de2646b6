use Rattle.std.proofs.Common.{rules}
use Rattle.gates.proofs.Clauses.{negated_known, two_low, three_low, gate_writes}
use Rattle.gates.proofs.writing.write_gate.Goals as goal

pub write_clause-requires : goal.write_clause-requires
write_clause-requires c = two_low _ _ _ (negated_known _ _ _ c.negated.ensures c.requires.p) c.requires.gate

pub write_clause-requires-2 : goal.write_clause-requires-2
write_clause-requires-2 c =
    let v = c.in_ok-write_clause.ensures.writes.memory.variables in
    rw v (three_low _ _ _ _ (negated_known _ _ _ c.negated-2.ensures c.requires.x) (negated_known _ _ _ c.negated-3.ensures c.requires.y) c.requires.gate)

pub write_clause-requires-3 : goal.write_clause-requires-3
write_clause-requires-3 c =
    let v = c.in_ok-write_clause.ensures.writes.memory.variables in let v' = c.in_ok-write_clause-2.ensures.writes.memory.variables in
    rw (v', v) (three_low _ _ _ _ (negated_known _ _ _ c.negated-not.ensures c.requires.gate) c.requires.p c.requires.x)

pub write_clause-requires-4 : goal.write_clause-requires-4
write_clause-requires-4 c =
    let v = c.in_ok-write_clause.ensures.writes.memory.variables in let v' = c.in_ok-write_clause-2.ensures.writes.memory.variables in let v'' = c.in_ok-write_clause-3.ensures.writes.memory.variables in
    rw (v'', v', v) (three_low _ _ _ _ (negated_known _ _ _ c.negated-not.ensures c.requires.gate) c.requires.p (search rules))

pub returns-clause-writes : goal.returns-clause-writes
returns-clause-writes c =
    gate_writes c.args.gate c.args.inputs.p c.args.inputs.x c.args.inputs.y c.negated-not.result c.negated.result c.negated-2.result c.negated-3.result c.negated-not.ensures c.negated.ensures c.negated-2.ensures c.negated-3.ensures
    _ _ _ _ _ c.in_ok-write_clause.ensures.writes c.in_ok-write_clause-2.ensures.writes c.in_ok-write_clause-3.ensures.writes _ c.write_clause-4.ensures.writes

pub returns-in_err-write_clause-3-clause-in_order : goal.returns-in_err-write_clause-3-clause-in_order
returns-in_err-write_clause-3-clause-in_order c = λ o. c.in_err-write_clause-3.ensures.in_order (c.in_ok-write_clause-2.ensures.in_order (c.in_ok-write_clause.ensures.in_order o))

pub returns-clause-in_order : goal.returns-clause-in_order
returns-clause-in_order c = λ o. c.write_clause-4.ensures.in_order (c.in_ok-write_clause-3.ensures.in_order (c.in_ok-write_clause-2.ensures.in_order (c.in_ok-write_clause.ensures.in_order o)))

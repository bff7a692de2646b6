use Rattle.std.proofs.Common.{arith}
use Rattle.gates.proofs.Literals.{negated_low}
use Rattle.leaders.proofs.Linking.{link_came}
use Rattle.leaders.proofs.link.Goals as goal

pub claim-requires-clause-inb : goal.claim-requires-clause-inb
claim-requires-clause-inb c = negated_low _ _ _ c.negated-not_here.ensures c.requires.here

pub fresh_gate-requires-clause-inx : goal.fresh_gate-requires-clause-inx
fresh_gate-requires-clause-inx c = negated_low _ _ _ c.negated-not_here.ensures (omega (arith, c.requires.here, c.in_ok-claim.ensures.base, c.in_ok-claim.ensures.count))

pub returns : goal.returns
returns c = link_came c.args.circuit.now c.args.smaller c.args.here c.args.there c.negated-not_here.result c.negated-not_here.ensures c.claim.new.self c.fresh_gate.new.self c.in_ok-claim.ensures c.fresh_gate.ensures.adds c.fresh_gate.result c.fresh_gate.ensures.came

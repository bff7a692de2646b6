use Rattle.encoder.proofs.Expressions.{no_table, no_named, named_table, no_thing, thing_table, identity_table, empty_table, no_operand, unary_full, unary_table, no_operands, binary_full, binary_table, no_second, both_tables}
use Rattle.encoder.proofs.encoding.Encoder.+tables.Goals as goal

pub expression-returns-in_err-number-clause-says : goal.expression-returns-in_err-number-clause-says
expression-returns-in_err-number-clause-says t c = rw c.from_residual.ensures (no_table c.args.self.now c.args.at c.args.circuit.now c.in_err-number.ensures)

pub expression-returns-in_err-first_input-in-Named-clause-says : goal.expression-returns-in_err-first_input-in-Named-clause-says
expression-returns-in_err-first_input-in-Named-clause-says t c = rw c.from_residual-in_err-first_input-in-Named.ensures (no_named c.args.self.now c.args.at _ c.in_ok-number.ensures c.args.circuit.now _ c.in-Named.is c.in_err-first_input-in-Named.ensures)

pub expression-returns-in_ok-first_input-in-Named-clause-says : goal.expression-returns-in_ok-first_input-in-Named-clause-says
expression-returns-in_ok-first_input-in-Named-clause-says t c = named_table c.args.self.now c.args.at _ c.in_ok-number.ensures c.args.circuit.now _ _ _ c.in-Named.is c.requires c.in_ok-first_input-in-Named.ensures c.inputs.ensures

pub expression-returns-in_err-thing-in-Thing-clause-says : goal.expression-returns-in_err-thing-in-Thing-clause-says
expression-returns-in_err-thing-in-Thing-clause-says t c = rw c.from_residual-in_err-thing-in-Thing.ensures (no_thing c.args.self.now c.args.at _ c.in_ok-number.ensures c.args.circuit.now _ c.in-Thing.is c.in_err-thing-in-Thing.ensures)

pub expression-returns-in_ok-thing-in-Thing-clause-says : goal.expression-returns-in_ok-thing-in-Thing-clause-says
expression-returns-in_ok-thing-in-Thing-clause-says t c = thing_table c.args.self.now c.args.at _ c.in_ok-number.ensures c.args.circuit.now _ _ _ c.in-Thing.is c.in_ok-thing-in-Thing.ensures c.single.ensures

pub expression-returns-in-Identity-clause-says : goal.expression-returns-in-Identity-clause-says
expression-returns-in-Identity-clause-says t c = identity_table c.args.self.now c.args.at _ c.in_ok-number.ensures c.args.circuit.now _ c.in-Identity.is c.identity.ensures

pub expression-returns-in-Empty-clause-says : goal.expression-returns-in-Empty-clause-says
expression-returns-in-Empty-clause-says t c = empty_table c.args.self.now c.args.at _ c.in_ok-number.ensures c.args.circuit.now _ c.in-Empty.is c.empty.ensures

pub expression-returns-in_err-one-in-Unary-clause-says : goal.expression-returns-in_err-one-in-Unary-clause-says
expression-returns-in_err-one-in-Unary-clause-says t c = rw c.from_residual-in_err-one-in-Unary.ensures (no_operand c.args.self.now c.args.at _ c.in_ok-number.ensures c.args.circuit.now c.expression.new.circuit _ c.in-Unary.is c.in_err-one-in-Unary.ensures.says)

pub expression-returns-in_err-transformed-in-Unary-clause-says : goal.expression-returns-in_err-transformed-in-Unary-clause-says
expression-returns-in_err-transformed-in-Unary-clause-says t c = rw c.from_residual-in_err-transformed-in-Unary.ensures (unary_full c.args.self.now c.args.at _ c.in_ok-number.ensures c.args.circuit.now c.expression.new.circuit _ c.in-Unary.is c.transformed.new.circuit c.in_ok-one-in-Unary.one c.transformed.ensures.adds c.in_ok-one-in-Unary.ensures.says c.in_err-transformed-in-Unary.ensures.came)

pub expression-returns-in_ok-transformed-in-Unary-clause-says : goal.expression-returns-in_ok-transformed-in-Unary-clause-says
expression-returns-in_ok-transformed-in-Unary-clause-says t c = unary_table c.args.self.now c.args.at _ c.in_ok-number.ensures c.args.circuit.now c.expression.new.circuit _ c.in-Unary.is c.transformed.new.circuit c.in_ok-one-in-Unary.one c.transformed.ensures.adds c.in_ok-one-in-Unary.ensures.says _ c.in_ok-transformed-in-Unary.ensures.came

pub expression-returns-in_err-both-in-Binary-clause-says : goal.expression-returns-in_err-both-in-Binary-clause-says
expression-returns-in_err-both-in-Binary-clause-says t c = rw c.from_residual-in_err-both-in-Binary.ensures (no_operands c.args.self.now c.args.at _ c.in_ok-number.ensures c.args.circuit.now c.pair.new.circuit _ c.in-Binary.is c.in_err-both-in-Binary.ensures.says)

pub expression-returns-in_err-combined-in-Binary-clause-says : goal.expression-returns-in_err-combined-in-Binary-clause-says
expression-returns-in_err-combined-in-Binary-clause-says t c = rw c.from_residual-in_err-combined-in-Binary.ensures (binary_full c.args.self.now c.args.at _ c.in_ok-number.ensures c.args.circuit.now c.pair.new.circuit _ c.in-Binary.is c.combined.new.circuit c.in_ok-both-in-Binary.both c.combined.ensures.adds c.in_ok-both-in-Binary.ensures.says c.in_err-combined-in-Binary.ensures.came)

pub expression-returns-in_ok-combined-in-Binary-clause-says : goal.expression-returns-in_ok-combined-in-Binary-clause-says
expression-returns-in_ok-combined-in-Binary-clause-says t c = binary_table c.args.self.now c.args.at _ c.in_ok-number.ensures c.args.circuit.now c.pair.new.circuit _ c.in-Binary.is c.combined.new.circuit c.in_ok-both-in-Binary.both c.combined.ensures.adds c.in_ok-both-in-Binary.ensures.says _ c.in_ok-combined-in-Binary.ensures.came

pub pair-returns-in_err-other-clause-says : goal.pair-returns-in_err-other-clause-says
pair-returns-in_err-other-clause-says t c = rw c.from_residual-in_err-other.ensures (no_second c.args.self.now c.args.at c.args.circuit.now c.expression.new.circuit c.expression-2.new.circuit c.in_ok-one.one c.in_ok-one.ensures.says c.in_err-other.ensures.says)

pub pair-returns-clause-says : goal.pair-returns-clause-says
pair-returns-clause-says t c = both_tables c.args.self.now c.args.at c.args.circuit.now c.expression.new.circuit c.expression-2.new.circuit c.in_ok-one.one c.in_ok-one.ensures.says c.in_ok-other.other c.expression-2.ensures.grew c.in_ok-other.ensures.says

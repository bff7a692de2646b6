use Rattle.evaluator.proofs.Values.{no_value, no_named, named_value, no_thing, thing_value, empty_value, no_unary, unary_value, no_binary, binary_value, no_second, both_values}
use Rattle.evaluator.proofs.evaluating.Reader.+values.Goals as goal

pub expression-returns-in_err-number : goal.expression-returns-in_err-number
expression-returns-in_err-number t c = rw c.from_residual.ensures (no_value c.args.self.now c.args.at c.in_err-number.ensures)

pub expression-returns-in_err-relation-in-Named : goal.expression-returns-in_err-relation-in-Named
expression-returns-in_err-relation-in-Named t c = rw c.from_residual-in_err-relation-in-Named.ensures (no_named c.args.self.now c.args.at _ c.in_ok-number.ensures _ c.in-Named.is c.in_err-relation-in-Named.ensures)

pub expression-returns-in_ok-relation-in-Named : goal.expression-returns-in_ok-relation-in-Named
expression-returns-in_ok-relation-in-Named t c = named_value c.args.self.now c.args.at _ c.in_ok-number.ensures _ _ c.in-Named.is c.in_ok-relation-in-Named.ensures

pub expression-returns-in_err-thing-in-Thing : goal.expression-returns-in_err-thing-in-Thing
expression-returns-in_err-thing-in-Thing t c = rw c.from_residual-in_err-thing-in-Thing.ensures (no_thing c.args.self.now c.args.at _ c.in_ok-number.ensures _ c.in-Thing.is c.in_err-thing-in-Thing.ensures)

pub expression-returns-in_ok-thing-in-Thing : goal.expression-returns-in_ok-thing-in-Thing
expression-returns-in_ok-thing-in-Thing t c = thing_value c.args.self.now c.args.at _ c.in_ok-number.ensures _ _ _ c.in-Thing.is c.in_ok-thing-in-Thing.ensures c.single.ensures

pub expression-returns-in-Empty : goal.expression-returns-in-Empty
expression-returns-in-Empty t c = empty_value c.args.self.now c.args.at _ c.in_ok-number.ensures c.in-Empty.is

pub expression-returns-in_err-one-in-Unary : goal.expression-returns-in_err-one-in-Unary
expression-returns-in_err-one-in-Unary t c = rw c.from_residual-in_err-one-in-Unary.ensures (no_unary c.args.self.now c.args.at _ c.in_ok-number.ensures _ c.in-Unary.is c.in_err-one-in-Unary.ensures)

pub expression-returns-in_ok-one-in-Unary : goal.expression-returns-in_ok-one-in-Unary
expression-returns-in_ok-one-in-Unary t c = unary_value c.args.self.now c.args.at _ c.in_ok-number.ensures c.in-Unary.operator c.in_ok-one-in-Unary.one _ c.in-Unary.is c.transformed.ensures c.in_ok-one-in-Unary.ensures

pub expression-returns-in_err-both-in-Binary : goal.expression-returns-in_err-both-in-Binary
expression-returns-in_err-both-in-Binary t c = rw c.from_residual-in_err-both-in-Binary.ensures (no_binary c.args.self.now c.args.at _ c.in_ok-number.ensures _ c.in-Binary.is c.in_err-both-in-Binary.ensures)

pub expression-returns-in_ok-both-in-Binary : goal.expression-returns-in_ok-both-in-Binary
expression-returns-in_ok-both-in-Binary t c = binary_value c.args.self.now c.args.at _ c.in_ok-number.ensures c.in-Binary.operator c.in_ok-both-in-Binary.both _ c.in-Binary.is c.combined.ensures c.in_ok-both-in-Binary.ensures

pub pair-returns-in_err-other : goal.pair-returns-in_err-other
pair-returns-in_err-other t c = rw c.from_residual-in_err-other.ensures (no_second c.args.self.now c.args.at c.in_ok-one.one c.in_ok-one.ensures c.in_err-other.ensures)

pub pair-returns : goal.pair-returns
pair-returns t c = both_values c.args.self.now c.args.at c.in_ok-one.one c.in_ok-other.other c.in_ok-one.ensures c.in_ok-other.ensures

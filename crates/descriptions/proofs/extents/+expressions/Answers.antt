use Rattle.descriptions.proofs.Operators.{no_expression}
use Rattle.descriptions.proofs.Operands.{second, named_extent, thing_extent, unary_extent, binary_extent}
use Rattle.descriptions.proofs.extents.+expressions.Goals as goal

pub expression_extent-returns-in_err-relation : goal.expression_extent-returns-in_err-relation
expression_extent-returns-in_err-relation t c = rw c.from_residual.ensures (no_expression _ _ c.args.bytes.now c.args.at _ c.in_err-relation.ensures)

pub expression_extent-returns-in-Named : goal.expression_extent-returns-in-Named
expression_extent-returns-in-Named t c = rw c.then_some.ensures (named_extent c.args.scope c.args.bytes.now c.args.at _ c.in_ok-relation.ensures _ c.in-Named.is)

pub expression_extent-returns-in-Thing : goal.expression_extent-returns-in-Thing
expression_extent-returns-in-Thing t c = rw c.then_some-in-Thing.ensures (thing_extent c.args.scope c.args.bytes.now c.args.at _ c.in_ok-relation.ensures _ c.in-Thing.is)

pub expression_extent-returns-in-Unary : goal.expression_extent-returns-in-Unary
expression_extent-returns-in-Unary t c = unary_extent c.args.scope c.args.bytes.now c.args.at _ c.in_ok-relation.ensures _ _ c.in-Unary.is c.expression_extent.ensures

pub expression_extent-returns-in-Binary : goal.expression_extent-returns-in-Binary
expression_extent-returns-in-Binary t c = binary_extent c.args.scope c.args.bytes.now c.args.at _ c.in_ok-relation.ensures _ _ c.in-Binary.is c.expressions_extent.ensures

pub expressions_extent-returns : goal.expressions_extent-returns
expressions_extent-returns t c = second c.args.scope c.args.bytes.now c.args.at c.in_ok-one.one _ c.in_ok-one.ensures c.expression_extent-2.ensures

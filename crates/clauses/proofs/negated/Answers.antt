use Rattle.std.proofs.Common.{arith}
use Rattle.clauses.specs.Formulas.{negation}
use Rattle.clauses.proofs.negated.Goals as goal

pub returns-then-literal-eq0 : goal.returns-then-literal-eq0
unfolding negation
returns-then-literal-eq0 c = omega arith

pub returns-else-literal-eq0 : goal.returns-else-literal-eq0
unfolding negation
returns-else-literal-eq0 c = omega arith

use Rattle.std.proofs.Common.{ℕ, ◌<◌}
use Rattle.clauses.specs.Formulas.{Satisfies}
use Rattle.clauses.specs.Stores.{clause_at}
use Rattle.solver.specs.Values.{assignment}
use Rattle.solver.proofs.values.are_satisfied.Given as goal

abbrev pub invariant-loop-number : goal.invariant-loop-number
invariant-loop-number l = (k : ℕ) → k < l.number → Satisfies (assignment l.trail.values) (clause_at l.clauses.formula k)

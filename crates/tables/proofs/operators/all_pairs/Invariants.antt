use Rattle.std.proofs.Common.{ℕ, ◌*◌, ◌/◌, ◌%◌}
use Rattle.descriptions.specs.Pictures.{Relation}
use Rattle.clauses.specs.Formulas.{Assignment}
use Rattle.gates.specs.Circuits.{GrewC, AddsC}
use Rattle.tables.specs.Pairs.{Makes}
use Rattle.tables.proofs.Filling.{UptoC}
use Rattle.tables.proofs.operators.all_pairs.Given as goal

abbrev pub invariant-loop-place : goal.invariant-loop-place
invariant-loop-place g l =
    GrewC l.initial.circuit l.circuit
    × ((cost : ℕ) (value : Assignment → Relation) → Makes l.initial.circuit l.size.things (λ d p r e. goal.F-post g l.literal d p r e) cost value → AddsC l.initial.circuit l.circuit (l.place * cost) × UptoC l.circuit l.place l.entry-items (λ k α. value α (k / l.size.things) (k % l.size.things)))

use Rattle.std.proofs.Common.{◌≡◌, ℕ, ◌<◌, ◌&&◌}
use Rattle.descriptions.specs.Pictures.{any}
use Rattle.clauses.specs.Formulas.{value}
use Rattle.gates.specs.Circuits.{InC, AddsC, GivesC}
use Rattle.tables.proofs.chains.some_both.Given as goal

abbrev pub invariant-loop-number : goal.invariant-loop-number
invariant-loop-number g l =
    AddsC l.initial.circuit l.circuit l.number
    × (InC l.circuit l.found × ((x y : ℕ → ℕ) → ((k : ℕ) (r : ℕ × ℕ) → k < l.count → goal.F-post g l.both k r → (r.0 ≡ x k) × (r.1 ≡ y k)) → GivesC l.circuit l.found (λ α. any l.number (λ k. value α (x k) && value α (y k)))))

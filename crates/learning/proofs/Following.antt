-- Clauses that follow: what one forces.
use Rattle.std.proofs.Common.{◌≡◌, ℕ, ◌<◌, ◌≤◌, true, List, length, get_or, sym, ap, ◌∙◌, inl, inr, arith}
use Rattle.std.proofs.lemmas.Bool.{both_ways, not-true}
use Rattle.clauses.specs.Formulas.{Assignment, value, negation, Satisfies, Models}
use Rattle.clauses.specs.Stores.{Follows}
use Rattle.clauses.proofs.Literals.{value_negation}
use Rattle.trail.specs.Trails.{Decided, Held}
use Rattle.learning.specs.Turning.{Against}

-- a literal whose negation stands before a place is false in every model with the decisions before
pub forced : (f : List (List ℕ)) (v : ℕ) (values literals marks : List ℕ) (n before : ℕ) (c : List ℕ) (l : ℕ) → Held f v values literals marks n → before ≤ n → Follows f c → ((j : ℕ) → j < length c → Against literals before l (get_or c j 0)) → (α : Assignment) → Models f α → Decided literals marks α before → value α l ≡ true
forced f v values literals marks n before c l held low follows each α m decided = here (follows α m)
  where
    by : (s : Satisfies α c) → Against literals before l (get_or c s.at 0) → value α l ≡ true
    by s (inl e) = sym (ap (value α) e) ∙ s.holds
    by s (inr o) =
        let t : value α (negation (get_or c s.at 0)) ≡ true = sym (ap (value α) o.is) ∙ held.implied α m o.at (omega (arith, o.high)) (λ q h one. decided q (omega (arith, o.high)) one) in
        absurd (both_ways (value α (get_or c s.at 0)) (not-true (value α (get_or c s.at 0)) (sym (value_negation α (get_or c s.at 0)) ∙ t)) s.holds)

    here : Satisfies α c → value α l ≡ true
    here s = by s (each s.at s.inside)

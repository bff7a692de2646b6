-- What a look at a clause says of models.
use Rattle.std.proofs.Common.{◌≡◌, ℕ, ◌-◌, ◌+◌, ◌%◌, ◌≤◌, true, ◌⊎◌, List, get_or, sym, ap, ◌∙◌, inl, inr, arith}
use Rattle.std.proofs.lemmas.Bool.{cases_eq, both_ways, not-true}
use Rattle.clauses.specs.Formulas.{Assignment, value, negation, Models}
use Rattle.clauses.specs.Stores.{Follows}
use Rattle.clauses.proofs.Literals.{value_negation}
use Rattle.trail.specs.Trails.{IsFalseUnder, Decided, Stuck, OnTrail, Held}
use Rattle.trail.proofs.Assuming.{false_negation}
use Rattle.propagation.specs.Looking.{OthersFalse, Differs}

-- a clause that every model satisfies
module _ (f : List (List ℕ)) (values c : List ℕ) (other : ℕ) (follows : Follows f c) (o : OthersFalse values c other) where
  pub implies_other : (α : Assignment) → Models f α → (value α other ≡ true) ⊎ Differs values α
  implies_other α m =
      let t = follows α m in
      elim (cases_eq (get_or c t.at 0) other) [
        | inl e ↦ inl (sym (ap (value α) e) ∙ t.holds)
        | inr ne ↦ inr (record { literal = get_or c t.at 0; is_false = o t.at t.inside ne; holds = t.holds })
      ]

  pub all_differ : IsFalseUnder values other → (α : Assignment) → Models f α → Differs values α
  all_differ off α m = elim (implies_other α m) [ inl t ↦ record { literal = other; is_false = off; holds = t } | inr d ↦ d ]

-- a model that has the decisions does not differ from the values
module _ (f : List (List ℕ)) (v : ℕ) (values literals marks : List ℕ) (n : ℕ) (held : Held f v values literals marks n) where
  agrees : (α : Assignment) → Models f α → Decided literals marks α n → Differs values α → ⊥
  agrees α m d x =
      let l : ℕ = x.literal in
      let o : OnTrail literals n (negation l) = held.stands (negation l) (false_negation values l x.is_false) in
      let s : value α (get_or literals o.at 0) ≡ true = held.implied α m o.at o.high (λ q h. d q (omega (arith, o.high))) in
      let t : value α (negation l) ≡ true = sym (ap (value α) o.is) ∙ s in
      both_ways (value α l) (not-true (value α l) (sym (value_negation α l) ∙ t)) x.holds

  pub stuck : ((α : Assignment) → Models f α → Differs values α) → Stuck f literals marks n
  stuck x α m d = agrees α m d (x α m)

  pub implied_by : (other : ℕ) → ((α : Assignment) → Models f α → (value α other ≡ true) ⊎ Differs values α) → (α : Assignment) → Models f α → Decided literals marks α n → value α other ≡ true
  implied_by other x α m d = elim (x α m) [ inl t ↦ t | inr y ↦ absurd (agrees α m d y) ]

-- a value that is neither true nor false is not known
pub not_known : (x l : ℕ) → x ≤ 2 → (x ≡ 1 + l % 2 → ⊥) → (x ≡ 2 - l % 2 → ⊥) → x ≡ 0
not_known x l h a b = omega arith

-- Values that make a literal of each clause true are a model; those that do not are in no model's way.
use Rattle.std.proofs.Common.{◌≡◌, ℕ, ◌+◌, ◌-◌, ◌/◌, ◌%◌, ◌<◌, ◌≤◌, Bool, true, cond, not, eqb, List, [], ◌++◌, length, get_or, sym, ap, ◌∙◌, subst, inl, inr, ⊎_elim, arith}
use Rattle.std.proofs.lemmas.Bool.{cases_eq, cases_lt, eq-eqb, ne_eqb}
use Rattle.std.proofs.Math.ListN.{get_or-append, length-append}
use Rattle.std.proofs.Math.Seq.{get_or-append_right}
use Rattle.clauses.specs.Formulas.{Assignment, value, Satisfies, Models}
use Rattle.clauses.specs.Stores.{Follows, clause_at}
use Rattle.trail.specs.Views.{TrailView, formula_of, variables_of}
use Rattle.trail.specs.Trails.{IsTrueUnder, Good, Jammed, SameClauses, number, rank}
use Rattle.trail.proofs.Numbers.{falls_by_budget}
use Rattle.trail.proofs.Steps.{same_formula}
use Rattle.solver.specs.Assumptions.{Wished}
use Rattle.propagation.specs.Looking.{Differs}
use Rattle.propagation.proofs.Seeing.{stuck}
use Rattle.solver.specs.Values.{assignment, Full, AllSatisfied, SomeFalse}

pub true_under : (values : List ℕ) (l : ℕ) → IsTrueUnder values l → value (assignment values) l ≡ true
unfolding value assignment
true_under values l e = elim (cases_eq (l % 2) 0) [ inl z ↦ even z | inr z ↦ odd z ]
  where
    even : l % 2 ≡ 0 → value (assignment values) l ≡ true
    even z = ap (λ (b : Bool). cond b (eqb (get_or values (l / 2) 0) 1) (not (eqb (get_or values (l / 2) 0) 1))) (eq-eqb (l % 2) 0 z) ∙ eq-eqb (get_or values (l / 2) 0) 1 (omega arith)

    odd : (l % 2 ≡ 0 → ⊥) → value (assignment values) l ≡ true
    odd z = ap (λ (b : Bool). cond b (eqb (get_or values (l / 2) 0) 1) (not (eqb (get_or values (l / 2) 0) 1))) (ne_eqb (l % 2) 0 z) ∙ ap not (ne_eqb (get_or values (l / 2) 0) 1 (omega arith))

-- a clause of one of two formulas, among both
clause_first : (f g : List (List ℕ)) (k : ℕ) → k < length f → clause_at (f ++ g) k ≡ clause_at f k
clause_first f g k h = get_or-append f g [] k h

clause_second : (f g : List (List ℕ)) (k : ℕ) → length f ≤ k → clause_at (f ++ g) k ≡ clause_at g (k - length f)
clause_second f g k h = get_or-append_right f g k [] h

-- values that satisfy each clause of both are a model
pub all_satisfied : (values : List ℕ) (f g : List (List ℕ)) → AllSatisfied values f → AllSatisfied values g → Models (f ++ g) (assignment values)
all_satisfied values f g first second k h =
    ⊎_elim
    (λ l. subst (Satisfies (assignment values)) (sym (clause_first f g k l)) (first k l))
    (λ l. subst (Satisfies (assignment values)) (sym (clause_second f g k l)) (second (k - length f) (omega (arith, length-append f g))))
    (cases_lt k (length f))

-- where all variables have a value, a clause none of whose literals is true is false, so no model has the decisions
pub jammed : (t : TrailView) (g : List (List ℕ)) → Good t → Full (variables_of t) t.values → ((k : ℕ) → k < length g → Follows (formula_of t) (clause_at g k)) → SomeFalse (variables_of t) t.values g → Jammed t
jammed t g good full follows none =
    stuck (formula_of t) (variables_of t) t.values t.literals t.marks t.len good.held (λ α m. differs α (follows none.at none.inside α m))
  where
    differs : (α : Assignment) → Satisfies α (clause_at g none.at) → Differs t.values α
    differs α s =
        let l : ℕ = get_or (clause_at g none.at) s.at 0 in
        let ne : get_or t.values (l / 2) 0 ≡ 0 → ⊥ = full (l / 2) (none.known s.at s.inside) in
        let off : IsTrueUnder t.values l → ⊥ = none.none s.at s.inside in
        let small : get_or t.values (l / 2) 0 ≤ 2 = good.held.small (l / 2) in
        record { literal = l; is_false = omega (arith, ne, off, small); holds = s.holds }

-- clauses of the second formula follow from both
pub own_second : (f g : List (List ℕ)) (k : ℕ) → k < length g → Follows (f ++ g) (clause_at g k)
own_second f g k h α m =
    let low : length f ≤ length f + k = omega arith in
    let e : length f + k - length f ≡ k = omega arith in
    subst (Satisfies α) (clause_second f g (length f + k) low ∙ ap (clause_at g) e) (m (length f + k) (omega (arith, length-append f g)))

-- what is wished for is so over the same clauses
pub wished_on : (s t : TrailView) (assumptions : List ℕ) (k : ℕ) → SameClauses s t → Wished (formula_of s) assumptions k → Wished (formula_of t) assumptions k
wished_on s t assumptions k same wished = subst (λ (f : List (List ℕ)). Wished f assumptions k) (sym (same_formula s t same)) wished

-- begun anew over the same clauses, at the cost of the budget
pub falls_anew : (s t : TrailView) (budget budget' : ℕ) → SameClauses s t → budget' < budget → rank budget' t < rank budget s
falls_anew s t budget budget' same less =
    subst (λ (v : ℕ). number budget' t.marks t.len v < rank budget s) (sym (ap (λ p. p.variables) same.problem)) (falls_by_budget budget budget' s.marks t.marks s.len t.len (variables_of s) less)

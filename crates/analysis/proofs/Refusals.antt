-- The negated decisions are collected one by one, into a clause that every model satisfies where none has all decisions.
use Rattle.std.proofs.Common.{◌≡◌, ℕ, zero, suc, ◌+◌, ◌/◌, ◌<◌, ◌≤◌, Bool, true, eqb, not, ◌⊎◌, List, [], ◌∷◌, ◌++◌, length, get_or, sym, ap, ◌∙◌, subst, inl, inr, arith, add-one}
use Rattle.std.specs.Prelude.{Some, None, Option, if◌then◌else◌}
use Rattle.std.proofs.lemmas.Bool.{cases_eq, cases_Bool, eq-eqb}
use Rattle.std.proofs.Math.ListN.{length-append}
use Rattle.clauses.specs.Formulas.{Assignment, value, negation, Satisfies, Models}
use Rattle.clauses.specs.Stores.{Known}
use Rattle.clauses.proofs.Literals.{value_negation, negation_half}
use Rattle.trail.specs.Trails.{Decided, Stuck}
use Rattle.propagation.specs.Views.{SearchView, variables_of, formula_of}
use Rattle.analysis.specs.Views.{AnalysisView, clause_of}
use Rattle.analysis.specs.Refusing.{decisions, RefusedIf}
use Rattle.analysis.proofs.Marks.{known_more, satisfies_more, satisfies_last}

-- decisions, counted place by place
abbrev step : ℕ → ℕ
step mark = if eqb mark 1 then 1 else 0

pub decisions_one_more : (marks : List ℕ) (n : ℕ) → get_or marks n 0 ≡ 1 → decisions marks (n + 1) ≡ decisions marks n + 1
decisions_one_more marks n one =
    let e : step (get_or marks n 0) ≡ 1 = ap (λ (b : Bool). if b then 1 else 0) (eq-eqb (get_or marks n 0) 1 one) in
    let d : decisions marks (n + 1) ≡ decisions marks n + step (get_or marks n 0) = ap (decisions marks) (add-one n) in
    omega arith

pub decisions_grow : (marks : List ℕ) (k n : ℕ) → k ≤ n → decisions marks k ≤ decisions marks n
decisions_grow marks k zero h = let e : k ≡ 0 = omega arith in omega (arith, ap (decisions marks) e)
decisions_grow marks k (suc n) h =
    elim (cases_eq k (suc n)) [
      | inl e ↦ omega (arith, ap (decisions marks) e)
      | inr ne ↦ let r = decisions_grow marks k n (omega arith) in omega arith
    ]

-- every model has the decisions before a place, or makes one of the negated ones true
pub record Refusing (f : List (List ℕ)) (v : ℕ) (literals marks clause : List ℕ) (place : ℕ) : Type 0 where
  pub known : Known v clause
  pub size : length clause ≡ decisions marks place
  pub either : (α : Assignment) → Models f α → Decided literals marks α place ⊎ Satisfies α clause

decided_more : (literals marks : List ℕ) (α : Assignment) (place : ℕ) → Decided literals marks α place → (get_or marks place 0 ≡ 1 → value α (get_or literals place 0) ≡ true) → Decided literals marks α (place + 1)
decided_more literals marks α place d here q h one =
    elim (cases_eq q place) [
      | inl e ↦ ap (λ (x : ℕ). value α (get_or literals x 0)) e ∙ here (sym (ap (λ (x : ℕ). get_or marks x 0) e) ∙ one)
      | inr ne ↦ d q (omega arith) one
    ]

module _ (f : List (List ℕ)) (v : ℕ) (literals marks clause : List ℕ) (place : ℕ) (r : Refusing f v literals marks clause place) where
  -- a decision's negation is one literal more
  pub refusing_more : (l : ℕ) → l ≡ negation (get_or literals place 0) → get_or literals place 0 / 2 < v → get_or marks place 0 ≡ 1 → Refusing f v literals marks (clause ++ l ∷ []) (place + 1)
  refusing_more l is small one =
      record {
        known = known_more clause l v r.known (subst (λ (x : ℕ). x < v) (sym (ap (λ (x : ℕ). x / 2) is ∙ negation_half (get_or literals place 0))) small);
        size = omega (arith, length-append clause (l ∷ []), r.size, decisions_one_more marks place one);
        either = λ α m. elim (r.either α m) [ inl d ↦ by α d | inr t ↦ inr (satisfies_more clause l α t) ];
      }
    where
      by : (α : Assignment) → Decided literals marks α place → Decided literals marks α (place + 1) ⊎ Satisfies α (clause ++ l ∷ [])
      by α d =
          elim (cases_Bool (value α (get_or literals place 0))) [
            | inl t ↦ inl (decided_more literals marks α place d (λ _. t))
            | inr t ↦ inr (satisfies_last clause l α (ap (value α) is ∙ value_negation α (get_or literals place 0) ∙ ap not t))
          ]

-- the last decision before a place, if there is one
pub record IsLast (marks : List ℕ) (n last : ℕ) : Type 0 where
  pub within : last < n
  pub decided : get_or marks last 0 ≡ 1
  pub later : (q : ℕ) → last < q → q < n → get_or marks q 0 ≡ 1 → ⊥

abbrev pub LastIf : List ℕ → ℕ → Option ℕ → Type 0
LastIf marks n None = decisions marks n ≡ 0
LastIf marks n (Some last) = IsLast marks n last

pub last_here : (marks : List ℕ) (n : ℕ) → get_or marks n 0 ≡ 1 → LastIf marks (n + 1) (Some n)
last_here marks n one = record { within = omega arith; decided = one; later = λ q a b _. absurd (omega arith) }

-- all places were gone through
pub refused_if : (s : SearchView) (a : AnalysisView) (place : ℕ) (last : Option ℕ) → place ≡ s.trail.len → Stuck (formula_of s) s.trail.literals s.trail.marks s.trail.len → Refusing (formula_of s) (variables_of s) s.trail.literals s.trail.marks (clause_of a) place → LastIf s.trail.marks place last → RefusedIf s a last
refused_if s a place None end stuck r none = inl (sym (ap (decisions s.trail.marks) end) ∙ none)
refused_if s a place (Some last) end stuck r i =
    record {
      known = r.known;
      follows = λ α m. elim (r.either α m) [ inl d ↦ absurd (stuck α m (λ q h. d q (omega arith))) | inr t ↦ t ];
      size = r.size ∙ ap (decisions s.trail.marks) end;
      within = omega (arith, i.within);
      decided = i.decided;
      later = λ q a b. i.later q a (omega arith);
    }

-- there is no room for one more
pub no_room : (marks : List ℕ) (n place size room : ℕ) → size ≡ decisions marks place → place < n → get_or marks place 0 ≡ 1 → room ≤ size → room < decisions marks n
no_room marks n place size room is inside one full = omega (arith, decisions_one_more marks place one, decisions_grow marks (place + 1) n (omega arith))

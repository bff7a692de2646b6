-- What holds of clauses when one of a single literal joins them.
use Rattle.std.proofs.Common.{◌≡◌, ℕ, ◌/◌, ◌<◌, true, List, [], ◌∷◌, ◌++◌, length, get_or, append_assoc, ⊎_elim, sym, ap, ◌∙◌, subst, arith}
use Rattle.std.specs.Prelude.{Ok, Err, Result}
use Rattle.std.proofs.Math.ListN.{get_or-append, length-append}
use Rattle.std.proofs.Math.Seq.{get_or-append_seam}
use Rattle.std.proofs.lemmas.Bool.{cases_lt}
use Rattle.clauses.specs.declared.store.Unfit.{Unfit}
use Rattle.clauses.specs.declared.store.Unfit.TheVariants.{Literal, Room}
use Rattle.clauses.specs.Formulas.{Assignment, value, Satisfies, Models}
use Rattle.clauses.specs.Stores.{Known, Fits, Added, AddedIf, clause_at}
use Rattle.clauses.specs.Views.{StoreView}
use Rattle.trail.specs.Views.{TrailView, formula_of, variables_of}
use Rattle.trail.specs.Trails.{IsFalseUnder, Good, Rooted, NoneModels}
use Rattle.trail.proofs.Assuming.{assumed_none, refuted}
use Rattle.trail.proofs.Steps.{models_first}
use Rattle.solver.proofs.Checks.{own_second}

-- there is room, so the clause is added
pub added : (c : List ℕ) (s t : StoreView) (r : Result (Unit {0}) Unfit) → Known s.variables c → Fits s (length c) → AddedIf c s t r → Added c s t
added c s t (Ok _) known fits a = a
added c s t (Err Literal) known fits a = absurd (a.0 known)
added c s t (Err Room) known fits a = absurd (a.0 fits)

-- a literal is known, as the clause of it alone
pub known_unit : (v l : ℕ) → l / 2 < v → Known v (l ∷ [])
known_unit v l h j k = subst (λ (x : ℕ). get_or (l ∷ []) x 0 / 2 < v) (let e : 0 ≡ j = omega arith in e) h

-- the one literal of a clause is true
unit_true : (α : Assignment) (l : ℕ) → Satisfies α (l ∷ []) → value α l ≡ true
unit_true α l s = subst (λ (j : ℕ). value α (get_or (l ∷ []) j 0) ≡ true) (let e : s.at ≡ 0 = omega (arith, s.inside) in e) s.holds

-- a model of clauses and of one more
models_and : (f : List (List ℕ)) (c : List ℕ) (α : Assignment) → Models f α → Satisfies α c → Models (f ++ (c ∷ [])) α
models_and f c α m s k h =
    ⊎_elim
    (λ b. subst (Satisfies α) (sym (get_or-append f (c ∷ []) [] k b)) (m k b))
    (λ b.
    let e : k ≡ length f = omega (arith, length-append f (c ∷ [])) in
    subst (Satisfies α) (sym (ap (λ (j : ℕ). clause_at (f ++ (c ∷ [])) j) e ∙ get_or-append_seam f c [] [])) s)
    (cases_lt k (length f))

module _ (s t : TrailView) (l : ℕ) (a : Added (l ∷ []) s.units t.units) (problem : t.problem ≡ s.problem) where
  -- it is true in every model of what there is now
  pub new_true : (α : Assignment) → Models (formula_of t) α → value α l ≡ true
  new_true α m =
      let n : ℕ = length s.units.formula in
      let e : clause_at t.units.formula n ≡ l ∷ [] = ap (λ g. clause_at g n) a.formula ∙ get_or-append_seam s.units.formula (l ∷ []) [] [] in
      unit_true α l (subst (Satisfies α) e (own_second t.problem.formula t.units.formula n (omega (arith, ap length a.formula, length-append s.units.formula ((l ∷ []) ∷ []))) α m))

  -- and every one of these is a model of what there was
  pub old_models : (α : Assignment) → Models (formula_of t) α → Models (formula_of s) α
  old_models α m =
      models_first (formula_of s) ((l ∷ []) ∷ []) α
      (subst (λ (f : List (List ℕ)). Models f α) (ap (λ p. p.formula ++ t.units.formula) problem ∙ ap (λ u. s.problem.formula ++ u) a.formula ∙ sym (append_assoc s.problem.formula s.units.formula ((l ∷ []) ∷ []))) m)

  -- and what makes the literal true, of what there was, is a model of what there is now
  pub models_more : (α : Assignment) → Models (formula_of s) α → value α l ≡ true → Models (formula_of t) α
  models_more α m v =
      subst (λ (f : List (List ℕ)). Models f α) (sym (ap (λ p. p.formula ++ t.units.formula) problem ∙ ap (λ u. s.problem.formula ++ u) a.formula ∙ sym (append_assoc s.problem.formula s.units.formula ((l ∷ []) ∷ []))))
      (models_and (formula_of s) (l ∷ []) α m (record { at = 0; inside = omega arith; holds = v }))

  -- a literal that is false before any decision cannot be fixed
  pub never_fixed : Good s → Rooted s.marks s.len → IsFalseUnder s.values l → NoneModels (formula_of t)
  never_fixed good rooted is_false α m =
      refuted (formula_of s) (variables_of s) s.values s.literals s.marks (l ∷ []) 1 s.len 0 good.held (assumed_none (l ∷ []) 1 s.literals s.marks s.len rooted) (omega arith) is_false α (old_models α m)
      (λ j h. subst (λ (i : ℕ). value α (get_or (l ∷ []) i 0) ≡ true) (let e : 0 ≡ j = omega arith in e) (new_true α m))

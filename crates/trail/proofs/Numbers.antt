-- The trail as a number in base 3: it falls with the first place that does.
use Rattle.std.proofs.Common.{◌≡◌, ℕ, zero, suc, ◌+◌, ◌<◌, ◌≤◌, Bool, true, false, cond, eqb, List, length, get_or, set, sym, refl, ap, ◌∙◌, subst, ⊎_elim, arith}
use Rattle.std.proofs.lemmas.List.{get_or-set_same, get_or-set_other}
use Rattle.std.proofs.lemmas.Bool.{cases_eq, cases_lt, lt-ltb, le-ltb, cond-true, cond-false}
use Rattle.trail.specs.Trails.{digit, number}

abbrev decision : ℕ → ℕ
decision mark = cond (eqb mark 1) 1 0

decision_small : (b : Bool) → cond b 1 0 ≤ 1
decision_small true = omega arith
decision_small false = omega arith

digit_below : (marks : List ℕ) (n p : ℕ) → p < n → digit marks n p ≡ decision (get_or marks p 0)
unfolding digit
digit_below marks n p h = cond-true _ _ _ (lt-ltb p n h)

digit_past : (marks : List ℕ) (n p : ℕ) → n ≤ p → digit marks n p ≡ 2
unfolding digit
digit_past marks n p h = cond-false _ _ _ (le-ltb p n h)

digit_small : (marks : List ℕ) (n p : ℕ) → digit marks n p ≤ 2
digit_small marks n p = ⊎_elim (λ h. let e = digit_below marks n p h in let s = decision_small (eqb (get_or marks p 0) 1) in omega arith) (λ h. let e = digit_past marks n p h in omega arith) (cases_lt p n)

-- places before d are the same, and the digit at d is less
module _ (budget : ℕ) (marks marks' : List ℕ) (n n' d : ℕ) (same : (p : ℕ) → p < d → digit marks' n' p ≡ digit marks n p) (less : digit marks' n' d < digit marks n d) where
  number_same : (k : ℕ) → k ≤ d → number budget marks' n' k ≡ number budget marks n k
  unfolding number
  number_same zero h = refl
  number_same (suc k) h = let e = number_same k (omega arith) in let s = same k h in omega arith

  number_less : (k : ℕ) → d < k → number budget marks' n' k < number budget marks n k
  unfolding number
  number_less zero h = absurd (omega arith)
  number_less (suc k) h =
      ⊎_elim
      (λ e. let s = number_same k (omega arith) in let l : digit marks' n' k < digit marks n k = subst (λ (x : ℕ). digit marks' n' x < digit marks n x) (sym e) less in omega arith)
      (λ ne. let r = number_less k (omega arith) in let s = digit_small marks' n' k in omega arith)
      (cases_eq k d)

module _ (budget : ℕ) (marks marks' : List ℕ) (n mark : ℕ) (change : marks' ≡ set marks n mark) where
  before : (n' len p : ℕ) → n' ≡ n + 1 → p < n → n ≤ len → digit marks' n' p ≡ digit marks len p
  before n' len p e h l = digit_below marks' n' p (omega arith) ∙ ap decision (ap (λ (xs : List ℕ). get_or xs p 0) change ∙ get_or-set_other marks n p mark 0 (omega arith)) ∙ sym (digit_below marks len p (omega arith))

  -- a literal more
  pub falls_by_one_more : (n' v : ℕ) → n' ≡ n + 1 → n < v → number budget marks' n' v < number budget marks n v
  falls_by_one_more n' v e h =
      number_less budget marks marks' n n' n (λ p l. before n' n p e l (omega arith))
      (let a = digit_below marks' n' n (omega arith) in let b = digit_past marks n n (omega arith) in let s = decision_small (eqb (get_or marks' n 0) 1) in omega arith) v h

  -- an implied literal in the place of a decision
  pub falls_at_decision : (n' len v : ℕ) → mark ≡ 0 → n' ≡ n + 1 → n < length marks → get_or marks n 0 ≡ 1 → n < len → n < v → number budget marks' n' v < number budget marks len v
  falls_at_decision n' len v zero-mark e in-marks one l h =
      number_less budget marks marks' len n' n (λ p q. before n' len p e q (omega arith))
      (let a : digit marks' n' n ≡ 0 = digit_below marks' n' n (omega arith) ∙ ap decision (ap (λ (xs : List ℕ). get_or xs n 0) change ∙ get_or-set_same marks n mark 0 in-marks ∙ zero-mark) in
      let b : digit marks len n ≡ 1 = digit_below marks len n l ∙ ap decision one in
      omega arith) v h

-- begun anew, at the cost of the budget
pub falls_by_budget : (budget budget' : ℕ) (marks marks' : List ℕ) (n n' k : ℕ) → budget' < budget → number budget' marks' n' k < number budget marks n k
unfolding number
falls_by_budget budget budget' marks marks' n n' zero h = h
falls_by_budget budget budget' marks marks' n n' (suc k) h = let r = falls_by_budget budget budget' marks marks' n n' k h in let s = digit_small marks' n' k in omega arith

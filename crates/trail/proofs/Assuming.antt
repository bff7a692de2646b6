-- Decisions that stay when the trail goes on or back, and what follows where an assumption is false.
use Rattle.std.proofs.Common.{◌≡◌, ℕ, ◌+◌, ◌/◌, ◌%◌, ◌<◌, ◌≤◌, true, not, ◌⊎◌, List, length, get_or, set, sym, refl, ap, ◌∙◌, subst, inl, inr, ⊎_elim, arith}
use Rattle.std.proofs.lemmas.List.{get_or-set_same, get_or-set_other}
use Rattle.std.proofs.lemmas.Bool.{cases_eq, true≢false}
use Rattle.clauses.specs.Formulas.{Assignment, value, negation, Models}
use Rattle.clauses.proofs.Literals.{value_negation, negation_half}
use Rattle.trail.proofs.Placing.{placed}
use Rattle.trail.specs.Trails.{IsTrueUnder, IsFalseUnder, OnTrail, Held, FollowsOn, Assumed}

pub later_none : (literals marks : List ℕ) (n : ℕ) → FollowsOn literals marks n literals marks n
later_none literals marks n = record { each = λ q h one. record { high = h; decided = one; same = λ p l. refl } }

pub later_back : (literals marks literals' marks' : List ℕ) (n n' : ℕ) → literals' ≡ literals → marks' ≡ marks → n' ≤ n → FollowsOn literals marks n literals' marks' n'
later_back literals marks literals' marks' n n' same-literals same-marks low =
    record {
      each = λ q h one.
          record { high = omega arith; decided = sym (ap (λ (xs : List ℕ). get_or xs q 0) same-marks) ∙ one; same = λ p l. ap (λ (xs : List ℕ). get_or xs p 0) same-literals };
    }

-- an implied literal in some place, and nothing after it
pub later_put : (literals marks literals' marks' : List ℕ) (n at l n' : ℕ) → at ≤ n → at < length marks → literals' ≡ set literals at l → marks' ≡ set marks at 0 → n' ≡ at + 1 → FollowsOn literals marks n literals' marks' n'
later_put literals marks literals' marks' n at l n' low inside new-literals new-marks e =
    record {
      each = λ q h one.
          ⊎_elim
          (λ i. let zero : get_or marks' q 0 ≡ 0 = ap (λ (y : ℕ). get_or marks' y 0) i ∙ ap (λ (xs : List ℕ). get_or xs at 0) new-marks ∙ get_or-set_same marks at 0 0 inside in absurd (omega arith))
          (λ ne.
          let b : q < at = omega arith in
          record {
            high = omega arith;
            decided = sym (ap (λ (xs : List ℕ). get_or xs q 0) new-marks ∙ get_or-set_other marks at q 0 0 ne) ∙ one;
            same = λ p g. ap (λ (xs : List ℕ). get_or xs p 0) new-literals ∙ get_or-set_other literals at p l 0 (omega arith);
          })
          (cases_eq q at);
    }

pub later_on : (literals marks literals' marks' literals'' marks'' : List ℕ) (n n' n'' : ℕ) → FollowsOn literals marks n literals' marks' n' → FollowsOn literals' marks' n' literals'' marks'' n'' → FollowsOn literals marks n literals'' marks'' n''
later_on literals marks literals' marks' literals'' marks'' n n' n'' first second =
    record {
      each = λ q h one.
          let s = second.each q h one in
          let r = first.each q s.high s.decided in
          record { high = r.high; decided = r.decided; same = λ p l. s.same p l ∙ r.same p l };
    }

pub assumed_none : (assumptions : List ℕ) (k : ℕ) (literals marks : List ℕ) (n : ℕ) → ((q : ℕ) → q < n → get_or marks q 0 ≡ 1 → ⊥) → Assumed assumptions k literals marks n
assumed_none assumptions k literals marks n none = record { each = λ q h one. absurd (none q h one) }

pub assumed_later : (assumptions : List ℕ) (k : ℕ) (literals marks literals' marks' : List ℕ) (n n' : ℕ) → Assumed assumptions k literals marks n → FollowsOn literals marks n literals' marks' n' → Assumed assumptions k literals' marks' n'
assumed_later assumptions k literals marks literals' marks' n n' assumed later =
    record {
      each = λ q h one.
          let s = later.each q h one in
          ⊎_elim
          (λ a. inl (subst (λ (l : ℕ). OnTrail assumptions k l) (sym (s.same q (omega arith))) a))
          (λ all. inr (λ i b. let o = all i b in record { at = o.at; high = o.high; is = s.same o.at (omega (arith, o.high)) ∙ o.is }))
          (assumed.each q s.high s.decided);
    }

-- a decision more, which is an assumption or comes after all of them
pub assumed_more : (assumptions : List ℕ) (k : ℕ) (literals marks literals' marks' : List ℕ) (n l n' : ℕ) → n < length literals → literals' ≡ set literals n l → marks' ≡ set marks n 1 → n' ≡ n + 1 → Assumed assumptions k literals marks n → OnTrail assumptions k l ⊎ ((i : ℕ) → i < k → OnTrail literals n (get_or assumptions i 0)) → Assumed assumptions k literals' marks' n'
assumed_more assumptions k literals marks literals' marks' n l n' inside new-literals new-marks e assumed new =
    record { each = λ q h one. ⊎_elim (λ i. here q i) (λ ne. before q (omega arith) one) (cases_eq q n) }
  where
    old : (q : ℕ) → q < n → get_or literals' q 0 ≡ get_or literals q 0
    old q h = ap (λ (xs : List ℕ). get_or xs q 0) new-literals ∙ get_or-set_other literals n q l 0 (omega arith)

    moved : (q : ℕ) → q ≤ n → ((i : ℕ) → i < k → OnTrail literals q (get_or assumptions i 0)) → (i : ℕ) → i < k → OnTrail literals' q (get_or assumptions i 0)
    moved q low all i b = let o = all i b in record { at = o.at; high = o.high; is = old o.at (omega (arith, o.high)) ∙ o.is }

    before : (q : ℕ) → q < n → get_or marks' q 0 ≡ 1 → OnTrail assumptions k (get_or literals' q 0) ⊎ ((i : ℕ) → i < k → OnTrail literals' q (get_or assumptions i 0))
    before q h one =
        ⊎_elim
        (λ a. inl (subst (λ (y : ℕ). OnTrail assumptions k y) (sym (old q h)) a))
        (λ all. inr (moved q (omega arith) all))
        (assumed.each q h (sym (ap (λ (xs : List ℕ). get_or xs q 0) new-marks ∙ get_or-set_other marks n q 1 0 (omega arith)) ∙ one))

    here : (q : ℕ) → q ≡ n → OnTrail assumptions k (get_or literals' q 0) ⊎ ((i : ℕ) → i < k → OnTrail literals' q (get_or assumptions i 0))
    here q i =
        ⊎_elim
        (λ a. inl (subst (λ (y : ℕ). OnTrail assumptions k y) (sym (ap (λ (y : ℕ). get_or literals' y 0) i ∙ ap (λ (xs : List ℕ). get_or xs n 0) new-literals ∙ get_or-set_same literals n l 0 inside)) a))
        (λ all. inr (moved q (omega arith) (subst (λ (y : ℕ). (i : ℕ) → i < k → OnTrail literals y (get_or assumptions i 0)) (sym i) all)))
        new

-- the negation of a literal that is false is true
pub false_negation : (values : List ℕ) (l : ℕ) → IsFalseUnder values l → IsTrueUnder values (negation l)
unfolding negation
false_negation values l h = let e = negation_half l in ap (λ (y : ℕ). get_or values y 0) e ∙ omega (arith, h)

-- where an assumption is false, no model has all of them
pub refuted : (f : List (List ℕ)) (v : ℕ) (values literals marks assumptions : List ℕ) (k n i : ℕ) → Held f v values literals marks n → Assumed assumptions k literals marks n → i < k → IsFalseUnder values (get_or assumptions i 0) → (α : Assignment) → Models f α → ((j : ℕ) → j < k → value α (get_or assumptions j 0) ≡ true) → ⊥
refuted f v values literals marks assumptions k n i held assumed inside is_false α model all =
    let a : ℕ = get_or assumptions i 0 in
    let o = held.stands (negation a) (false_negation values a is_false) in
    let on : value α (get_or literals o.at 0) ≡ true = held.implied α model o.at o.high (λ q h one. decided q (omega (arith, o.high)) one) in
    true≢false (sym on ∙ ap (value α) o.is ∙ value_negation α a ∙ ap not (all i inside))
  where
    decided : (q : ℕ) → q < n → get_or marks q 0 ≡ 1 → value α (get_or literals q 0) ≡ true
    decided q h one =
        ⊎_elim
        (λ a. sym (ap (value α) a.is) ∙ all a.at a.high)
        (λ before.
        let o = before i inside in
        let t : get_or values (get_or literals o.at 0 / 2) 0 ≡ 1 + get_or literals o.at 0 % 2 = placed f v values literals marks n held o.at (omega (arith, o.high)) in
        let t' : get_or values (get_or assumptions i 0 / 2) 0 ≡ 1 + get_or assumptions i 0 % 2 = subst (λ (y : ℕ). get_or values (y / 2) 0 ≡ 1 + y % 2) o.is t in
        absurd (omega (arith, is_false)))
        (assumed.each q h one)

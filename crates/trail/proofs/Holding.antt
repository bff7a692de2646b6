-- What a trail holds, when a literal comes, when the last goes, and when a decision is turned round.
use Rattle.std.proofs.Common.{◌≡◌, ℕ, ◌+◌, ◌/◌, ◌%◌, ◌<◌, ◌≤◌, true, cond, not, eqb, List, length, get_or, set, sym, ap, ◌∙◌, subst, ⊎_elim, arith}
use Rattle.std.proofs.lemmas.List.{length-set, get_or-set_same, get_or-set_other}
use Rattle.std.proofs.lemmas.List.Sums.{sum_by-set, get_or-le-sum_by, count_by-le-length}
use Rattle.std.proofs.lemmas.Bool.{cases_eq, cases_Bool, ne_eqb, cond-false}
use Rattle.clauses.specs.Formulas.{Assignment, value, negation, Models}
use Rattle.clauses.proofs.Literals.{value_negation}
use Rattle.trail.specs.Trails.{Decided, Stuck, unknown, Held}

-- one literal more
module _ (f : List (List ℕ)) (v : ℕ) (values literals marks values' literals' marks' : List ℕ) (n l mark : ℕ) (held : Held f v values literals marks n) (free : get_or values (l / 2) 0 ≡ 0) (known : l / 2 < v) (new-values : values' ≡ set values (l / 2) (1 + l % 2)) (new-literals : literals' ≡ set literals n l) (new-marks : marks' ≡ set marks n mark) where
  in_values : l / 2 < length values
  in_values = omega (arith, held.size)

  pub room_for_one : n < v
  unfolding unknown
  room_for_one =
      let count : ℕ → ℕ = λ x. cond (eqb x 0) 1 0 in
      let g : count (get_or values (l / 2) 0) ≤ unknown values = get_or-le-sum_by (λ x. cond (eqb x 0) 1 0) values (l / 2) 0 in_values in
      let e : count (get_or values (l / 2) 0) ≡ 1 = ap count free in
      omega (arith, held.room)

  literals_old : (q : ℕ) → q < n → get_or literals' q 0 ≡ get_or literals q 0
  literals_old q h = ap (λ (xs : List ℕ). get_or xs q 0) new-literals ∙ get_or-set_other literals n q l 0 (omega arith)

  literals_new : get_or literals' n 0 ≡ l
  literals_new = ap (λ (xs : List ℕ). get_or xs n 0) new-literals ∙ get_or-set_same literals n l 0 (omega (arith, held.literals_room, room_for_one))

  marks_old : (q : ℕ) → q < n → get_or marks' q 0 ≡ get_or marks q 0
  marks_old q h = ap (λ (xs : List ℕ). get_or xs q 0) new-marks ∙ get_or-set_other marks n q mark 0 (omega arith)

  marks_new : get_or marks' n 0 ≡ mark
  marks_new = ap (λ (xs : List ℕ). get_or xs n 0) new-marks ∙ get_or-set_same marks n mark 0 (omega (arith, held.marks_room, room_for_one))

  values_old : (x : ℕ) → (x ≡ l / 2 → ⊥) → get_or values' x 0 ≡ get_or values x 0
  values_old x h = ap (λ (xs : List ℕ). get_or xs x 0) new-values ∙ get_or-set_other values (l / 2) x (1 + l % 2) 0 h

  values_new : get_or values' (l / 2) 0 ≡ 1 + l % 2
  values_new = ap (λ (xs : List ℕ). get_or xs (l / 2) 0) new-values ∙ get_or-set_same values (l / 2) (1 + l % 2) 0 in_values

  fewer_unknown : unknown values' + (n + 1) ≤ v
  unfolding unknown
  fewer_unknown =
      let count : ℕ → ℕ = λ x. cond (eqb x 0) 1 0 in
      let s : unknown (set values (l / 2) (1 + l % 2)) + count (get_or values (l / 2) 0) ≡ unknown values + count (1 + l % 2) = sum_by-set (λ x. cond (eqb x 0) 1 0) values (l / 2) (1 + l % 2) 0 in_values in
      let a : count (get_or values (l / 2) 0) ≡ 1 = ap count free in
      let b : count (1 + l % 2) ≡ 0 = cond-false _ 1 0 (ne_eqb _ _ (omega arith)) in
      let c : unknown values' ≡ unknown (set values (l / 2) (1 + l % 2)) = ap unknown new-values in
      omega (arith, held.room)

  decided_old : (α : Assignment) (k : ℕ) → k ≤ n → Decided literals' marks' α k → Decided literals marks α k
  decided_old α k h d q g e = let b : q < n = omega arith in sym (ap (value α) (literals_old q b)) ∙ d q g (marks_old q b ∙ e)

  held_more_here : ((α : Assignment) → Models f α → Decided literals marks α n → (mark ≡ 1 → value α l ≡ true) → value α l ≡ true) → Held f v values' literals' marks' (n + 1)
  held_more_here new =
      record {
        size = ap length new-values ∙ length-set values (l / 2) (1 + l % 2) ∙ held.size;
        room = fewer_unknown;
        literals_room = omega (arith, ap length new-literals ∙ length-set literals n l, held.literals_room);
        marks_room = omega (arith, ap length new-marks ∙ length-set marks n mark, held.marks_room);
        small = λ x. ⊎_elim (λ e. let a : get_or values' x 0 ≡ 1 + l % 2 = ap (λ (y : ℕ). get_or values' y 0) e ∙ values_new in omega arith) (λ ne. omega (arith, values_old x ne, held.small x)) (cases_eq x (l / 2));
        known = λ p h. ⊎_elim (λ e. subst (λ (y : ℕ). y / 2 < v) (sym (ap (λ (y : ℕ). get_or literals' y 0) e ∙ literals_new)) known) (λ ne. let q : p < n = omega arith in subst (λ (y : ℕ). y / 2 < v) (sym (literals_old p q)) (held.known p q)) (cases_eq p n);
        stands = λ k h.
            ⊎_elim
            (λ e. let a : get_or values' (k / 2) 0 ≡ 1 + l % 2 = ap (λ (y : ℕ). get_or values' y 0) e ∙ values_new in let s : l ≡ k = omega arith in record { at = n; high = omega arith; is = literals_new ∙ s })
            (λ ne. let o = held.stands k (sym (values_old (k / 2) ne) ∙ h) in record { at = o.at; high = omega (arith, o.high); is = literals_old o.at o.high ∙ o.is })
            (cases_eq (k / 2) (l / 2));
        implied = λ α m p h d.
            ⊎_elim
            (λ e.
            let before : Decided literals' marks' α n = λ q g. d q (omega arith) in
            let decided : mark ≡ 1 → value α l ≡ true = λ i. sym (ap (value α) literals_new) ∙ d n (omega arith) (marks_new ∙ i) in
            ap (value α) (ap (λ (y : ℕ). get_or literals' y 0) e ∙ literals_new) ∙ new α m (decided_old α n (omega arith) before) decided)
            (λ ne. let q : p < n = omega arith in ap (value α) (literals_old p q) ∙ held.implied α m p q (decided_old α (p + 1) (omega arith) d))
            (cases_eq p n);
      }

  pub held_more : (n' : ℕ) → n' ≡ n + 1 → ((α : Assignment) → Models f α → Decided literals marks α n → (mark ≡ 1 → value α l ≡ true) → value α l ≡ true) → Held f v values' literals' marks' n'
  held_more n' e new = subst (λ (y : ℕ). Held f v values' literals' marks' y) (sym e) (held_more_here new)

-- one literal less
module _ (f : List (List ℕ)) (v : ℕ) (values literals marks : List ℕ) (k n : ℕ) (e : k ≡ n + 1) (held : Held f v values literals marks k) where
  pub last_known : get_or literals n 0 / 2 < length values
  last_known = let h = held.known n (omega arith) in omega (arith, held.size)

  pub held_less : (values' : List ℕ) → values' ≡ set values (get_or literals n 0 / 2) 0 → Held f v values' literals marks n
  unfolding unknown
  held_less values' new-values =
      let x0 : ℕ = get_or literals n 0 / 2 in
      let new : get_or values' x0 0 ≡ 0 = ap (λ (xs : List ℕ). get_or xs x0 0) new-values ∙ get_or-set_same values x0 0 0 last_known in
      let old : (x : ℕ) → (x ≡ x0 → ⊥) → get_or values' x 0 ≡ get_or values x 0 = λ x h. ap (λ (xs : List ℕ). get_or xs x 0) new-values ∙ get_or-set_other values x0 x 0 0 h in
      let s : unknown (set values x0 0) + cond (eqb (get_or values x0 0) 0) 1 0 ≡ unknown values + 1 = sum_by-set (λ x. cond (eqb x 0) 1 0) values x0 0 0 last_known in
      let c : unknown values' ≡ unknown (set values x0 0) = ap unknown new-values in
      record {
        size = ap length new-values ∙ length-set values x0 0 ∙ held.size;
        room = omega (arith, held.room);
        literals_room = held.literals_room;
        marks_room = held.marks_room;
        small = λ x. ⊎_elim (λ i. let a : get_or values' x 0 ≡ 0 = ap (λ (y : ℕ). get_or values' y 0) i ∙ new in omega arith) (λ ne. omega (arith, old x ne, held.small x)) (cases_eq x x0);
        known = λ p h. held.known p (omega arith);
        stands = λ l h.
            ⊎_elim
            (λ i. let a : get_or values' (l / 2) 0 ≡ 0 = ap (λ (y : ℕ). get_or values' y 0) i ∙ new in absurd (omega arith))
            (λ ne.
            let o = held.stands l (sym (old (l / 2) ne) ∙ h) in
            let q : o.at ≡ n → ⊥ = λ i. ne (ap (λ (y : ℕ). y / 2) (sym o.is ∙ ap (λ (y : ℕ). get_or literals y 0) i)) in
            record { at = o.at; high = omega (arith, o.high); is = o.is })
            (cases_eq (l / 2) x0);
        implied = λ α m p h d. held.implied α m p (omega arith) d;
      }

-- no model has the decisions up to the last literal
module _ (f : List (List ℕ)) (literals marks : List ℕ) (k n : ℕ) (e : k ≡ n + 1) (stuck : Stuck f literals marks k) where
  pub stuck_less : (get_or marks n 0 ≡ 1 → ⊥) → Stuck f literals marks n
  stuck_less implied α m d = stuck α m (λ q h i. ⊎_elim (λ j. absurd (implied (sym (ap (λ (y : ℕ). get_or marks y 0) j) ∙ i))) (λ ne. d q (omega arith) i) (cases_eq q n))

  -- so a decision there is false in those that have the others
  pub turned_round : (α : Assignment) → Models f α → Decided literals marks α n → value α (negation (get_or literals n 0)) ≡ true
  turned_round α m d =
      ⊎_elim
      (λ t. absurd (stuck α m (λ q h i. ⊎_elim (λ j. ap (λ (y : ℕ). value α (get_or literals y 0)) j ∙ t) (λ ne. d q (omega arith) i) (cases_eq q n))))
      (λ t. value_negation α (get_or literals n 0) ∙ ap not t)
      (cases_Bool (value α (get_or literals n 0)))

-- what was popped has no value
pub freed_more : (values literals literals₀ : List ℕ) (k n m : ℕ) → k ≡ n + 1 → literals ≡ literals₀ → get_or literals n 0 / 2 < length values → ((q : ℕ) → k ≤ q → q < m → get_or values (get_or literals₀ q 0 / 2) 0 ≡ 0) → (q : ℕ) → n ≤ q → q < m → get_or (set values (get_or literals n 0 / 2) 0) (get_or literals₀ q 0 / 2) 0 ≡ 0
freed_more values literals literals₀ k n m ek e known h q a b =
    ⊎_elim
    (λ s. ap (λ (y : ℕ). get_or (set values (get_or literals n 0 / 2) 0) y 0) s ∙ get_or-set_same values (get_or literals n 0 / 2) 0 0 known)
    (λ ne. get_or-set_other values (get_or literals n 0 / 2) (get_or literals₀ q 0 / 2) 0 0 ne ∙ h q (le ne) b)
    (cases_eq (get_or literals₀ q 0 / 2) (get_or literals n 0 / 2))
  where
    le : (get_or literals₀ q 0 / 2 ≡ get_or literals n 0 / 2 → ⊥) → k ≤ q
    le ne = ⊎_elim (λ s. absurd (ne (ap (λ (y : ℕ). get_or literals₀ y 0 / 2) s ∙ sym (ap (λ (xs : List ℕ). get_or xs n 0 / 2) e)))) (λ d. omega arith) (cases_eq q n)

-- no literal at all
pub held_none : (f : List (List ℕ)) (v : ℕ) (values literals marks : List ℕ) → length values ≡ v → v ≤ length literals → v ≤ length marks → ((x : ℕ) → get_or values x 0 ≡ 0) → Held f v values literals marks 0
unfolding unknown
held_none f v values literals marks size literals_room marks_room zero =
    record {
      size = size;
      room = omega (arith, count_by-le-length (λ x. eqb x 0) values);
      literals_room = literals_room;
      marks_room = marks_room;
      small = λ x. omega (arith, zero x);
      known = λ p h. absurd (omega arith);
      stands = λ l e. absurd (omega (arith, zero (l / 2)));
      implied = λ α m p h. absurd (omega arith);
    }

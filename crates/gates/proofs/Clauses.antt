-- Clauses that are added, one after the other, and what they say together.
use Rattle.std.proofs.Common.{◌≡◌, ℕ, zero, suc, ◌+◌, ◌*◌, ◌/◌, ◌<◌, ◌≤◌, Bool, true, false, not, ◌&&◌, ◌||◌, ◌⊎◌, List, [], ◌∷◌, ◌++◌, length, Ok, Err, Result, get_or, take, drop, length-append, length-drop, add-zero, rules, sym, refl, ap, ◌∙◌, subst, inl, inr, arith, below_more}
use Rattle.std.proofs.lemmas.List.{get_or_append_left, get_or_push, length_push, drop_at, drop-drop, places}
use Rattle.std.proofs.lemmas.Bool.{cases_lt, or_cases, or_left, or_right, false≢true, true≢false}
use Rattle.clauses.specs.declared.store.Unfit.{Unfit}
use Rattle.clauses.specs.declared.store.Unfit.TheVariants as unfit
use Rattle.clauses.specs.Formulas.{Assignment, value, negation, Satisfies, Models}
use Rattle.clauses.specs.Views.{StoreView}
use Rattle.clauses.specs.Stores.{Known, AddedIf}
use Rattle.clauses.proofs.Literals.{value_negation, negation_half}
use Rattle.clauses.proofs.Growing.{memory_on}
use Rattle.gates.specs.declared.circuit.Circuit.{Circuit}
use Rattle.gates.specs.Words.{mix, output, claimed, Meets}
use Rattle.gates.specs.Circuits.{GoesC}
use Rattle.gates.specs.Writing.{satisfied, Writes, Refused, WritesIf, Valued, clauses_of, literals_of, WrittenIf}
use Rattle.gates.proofs.Literals.{value_even}

module _ (α : Assignment) where
  true_at : (c : List ℕ) (k : ℕ) → k < length c → value α (get_or c k 0) ≡ true → satisfied α c ≡ true
  true_at [] k h e = absurd (omega arith)
  true_at (l ∷ c) zero h e = or_left _ _ e
  true_at (l ∷ c) (suc k) h e = or_right _ _ (true_at c k (omega arith) e)

  is_satisfied : (c : List ℕ) → Satisfies α c → satisfied α c ≡ true
  is_satisfied c s = true_at c s.at s.inside s.holds

  satisfies : (c : List ℕ) → satisfied α c ≡ true → Satisfies α c
  satisfies [] e = absurd (false≢true e)
  satisfies (l ∷ c) e = first (or_cases _ _ e) (satisfies c)
    where
      first : (value α l ≡ true) ⊎ (satisfied α c ≡ true) → (satisfied α c ≡ true → Satisfies α c) → Satisfies α (l ∷ c)
      first (inl q) f = record { at = 0; inside = omega arith; holds = q }
      first (inr q) f = let s = f q in record { at = suc s.at; inside = omega (arith, s.inside); holds = s.holds }

  -- models of one clause more
  models_more : (f : List (List ℕ)) (c : List ℕ) → Models f α → Satisfies α c → Models (f ++ (c ∷ [])) α
  models_more f c m s k h = elim (cases_lt k (length f)) [ inl l ↦ subst (Satisfies α) (sym (get_or_append_left f (c ∷ []) [] k l)) (m k l) | inr l ↦ (let n = length_push f c in subst (Satisfies α) (sym (get_or_push f c [] k (omega arith))) s) ]

  models_fewer : (f : List (List ℕ)) (c : List ℕ) → Models (f ++ (c ∷ [])) α → Models f α × Satisfies α c
  models_fewer f c m = let n = length_push f c in ((λ k h. subst (Satisfies α) (get_or_append_left f (c ∷ []) [] k h) (m k (omega arith))), subst (Satisfies α) (get_or_push f c [] (length f) refl) (m (length f) (omega arith)))

-- a clause that a store was asked to take
pub added_writes : (c : List ℕ) (s t : StoreView) → Known s.variables c → (r : Result (Unit {0}) Unfit) → AddedIf c s t r → WritesIf s 1 (length c) (λ α. satisfied α c ≡ true) t r
added_writes c s t known (Ok _) a =
    record {
      memory = a.memory;
      count = ap length a.formula ∙ length_push s.formula c;
      used = a.used;
      says = λ α m. (let p = models_fewer α s.formula c (subst (λ (f : List (List ℕ)). Models f α) a.formula m) in (p.0, is_satisfied α c p.1));
      means = λ α m p. subst (λ (f : List (List ℕ)). Models f α) (sym a.formula) (models_more α s.formula c m (satisfies α c p));
    }
added_writes c s t known (Err unfit.Literal) a = a.0 known
added_writes c s t known (Err unfit.Room) a = λ room. a.0 (record { spans = room.spans; words = room.words; small = room.small })

or_false : (b : Bool) → (b || false) ≡ b
or_false true = refl
or_false false = refl

-- the literals of a short clause
pub two_low : (v a b : ℕ) → a / 2 < v → b / 2 < v → Known v (a ∷ b ∷ [])
two_low v a b p q zero h = p
two_low v a b p q (suc zero) h = q
two_low v a b p q (suc (suc j)) h = absurd (omega arith)

pub three_low : (v a b c : ℕ) → a / 2 < v → b / 2 < v → c / 2 < v → Known v (a ∷ b ∷ c ∷ [])
three_low v a b c p q r zero h = p
three_low v a b c p q r (suc j) h = two_low v b c q r j (omega arith)

-- one after the other
module _ (s t : StoreView) (a k : ℕ) (P : Assignment → Type 0) (w : Writes s a k P t) where
  pub writes_then : (u : StoreView) (b l : ℕ) (Q R : Assignment → Type 0) → ((α : Assignment) → P α → Q α → R α) → ((α : Assignment) → R α → P α × Q α) → Writes t b l Q u → Writes s (a + b) (k + l) R u
  writes_then u b l Q R join split x =
      record {
        memory = memory_on _ _ _ w.memory x.memory;
        count = omega (arith, x.count, w.count);
        used = omega (arith, x.used, w.used);
        says = λ α m. (let p = x.says α m in let q = w.says α p.0 in (q.0, join α q.1 p.1));
        means = λ α m r. (let p = split α r in x.means α (w.means α m p.0) p.1);
      }

  -- no room after some, so none for all
  pub refused_then : (b l a' k' : ℕ) → a + b ≤ a' → k + l ≤ k' → (e : Unfit) → Refused t b l e → Refused s a' k' e
  refused_then b l a' k' h g unfit.Room f = λ r. f (record { spans = omega (arith, w.count, w.memory.spans_size, r.spans); words = omega (arith, w.used, w.memory.words_size, r.words); small = omega (arith, w.used, r.small) })
  refused_then b l a' k' h g unfit.Literal f = f

  pub writes_if : (u : StoreView) (b l : ℕ) (Q R : Assignment → Type 0) → ((α : Assignment) → P α → Q α → R α) → ((α : Assignment) → R α → P α × Q α) → (r : Result (Unit {0}) Unfit) → WritesIf t b l Q u r → WritesIf s (a + b) (k + l) R u r
  writes_if u b l Q R join split (Ok _) x = writes_then u b l Q R join split x
  writes_if u b l Q R join split (Err e) f = refused_then b l (a + b) (k + l) (omega arith) (omega arith) e f

-- the four clauses of a gate by the values
gate_is : (o p x y : Bool) → (not p || (o || false)) ≡ true → (not x || (not y || (o || false))) ≡ true → (not o || (p || (x || false))) ≡ true → (not o || (p || (y || false))) ≡ true → o ≡ (p || (x && y))
gate_is true true x y a b c d = refl
gate_is true false true true a b c d = refl
gate_is true false true false a b c d = sym d
gate_is true false false y a b c d = sym c
gate_is false true x y a b c d = a
gate_is false false true true a b c d = b
gate_is false false true false a b c d = refl
gate_is false false false y a b c d = refl

is_gate : (o p x y : Bool) → o ≡ (p || (x && y)) → (((not p || (o || false)) ≡ true) × ((not x || (not y || (o || false))) ≡ true)) × (((not o || (p || (x || false))) ≡ true) × ((not o || (p || (y || false))) ≡ true))
is_gate true true x y e = ((refl, second x y), (refl, refl))
  where
    second : (x y : Bool) → (not x || (not y || true)) ≡ true
    second true true = refl
    second true false = refl
    second false y = refl
is_gate true false true true e = ((refl, refl), (refl, refl))
is_gate true false true false e = ((refl, refl), (refl, sym e))
is_gate true false false y e = ((refl, refl), (sym e, last y e))
  where
    last : (y : Bool) → true ≡ false → (false || (y || false)) ≡ true
    last y e = absurd (true≢false e)
is_gate false true x y e = absurd (false≢true e)
is_gate false false true true e = absurd (false≢true e)
is_gate false false true false e = ((refl, refl), (refl, refl))
is_gate false false false y e = ((refl, refl), (refl, refl))

module _ (o p x y o' p' x' y' : ℕ) (not-o : o' ≡ negation o) (not-p : p' ≡ negation p) (not-x : x' ≡ negation x) (not-y : y' ≡ negation y) where
  abbrev Four : Assignment → Type 0
  Four α = ((satisfied α (p' ∷ o ∷ []) ≡ true) × (satisfied α (x' ∷ y' ∷ o ∷ []) ≡ true)) × ((satisfied α (o' ∷ p ∷ x ∷ []) ≡ true) × (satisfied α (o' ∷ p ∷ y ∷ []) ≡ true))

  negated_value : (α : Assignment) (l l' : ℕ) → l' ≡ negation l → value α l' ≡ not (value α l)
  negated_value α l l' e = ap (value α) e ∙ value_negation α l

  four_say : (α : Assignment) → Four α → value α o ≡ mix α p x y
  four_say α h =
      let no = negated_value α o o' not-o in let np = negated_value α p p' not-p in let nx = negated_value α x x' not-x in let ny = negated_value α y y' not-y in
      gate_is (value α o) (value α p) (value α x) (value α y) (rw (← np) h.0.0) (rw (← nx, ← ny) h.0.1) (rw (← no) h.1.0) (rw (← no) h.1.1)

  say_four : (α : Assignment) → value α o ≡ mix α p x y → Four α
  say_four α e =
      let no = negated_value α o o' not-o in let np = negated_value α p p' not-p in let nx = negated_value α x x' not-x in let ny = negated_value α y y' not-y in
      rw (np, nx, ny, no) (is_gate (value α o) (value α p) (value α x) (value α y) e)

  pub gate_writes : (s t u w z : StoreView) → Writes s 1 2 (λ α. satisfied α (p' ∷ o ∷ []) ≡ true) t → Writes t 1 3 (λ α. satisfied α (x' ∷ y' ∷ o ∷ []) ≡ true) u → Writes u 1 3 (λ α. satisfied α (o' ∷ p ∷ x ∷ []) ≡ true) w → (r : Result (Unit {0}) Unfit) → WritesIf w 1 3 (λ α. satisfied α (o' ∷ p ∷ y ∷ []) ≡ true) z r → WritesIf s 4 11 (λ α. value α o ≡ mix α p x y) z r
  gate_writes s t u w z a b c r d =
      let ab = writes_then s t 1 2 _ a u 1 3 _ (λ α. (satisfied α (p' ∷ o ∷ []) ≡ true) × (satisfied α (x' ∷ y' ∷ o ∷ []) ≡ true)) (λ α f g. (f, g)) (λ α h. h) b in
      let cd = writes_if u w 1 3 _ c z 1 3 _ (λ α. (satisfied α (o' ∷ p ∷ x ∷ []) ≡ true) × (satisfied α (o' ∷ p ∷ y ∷ []) ≡ true)) (λ α f g. (f, g)) (λ α h. h) r d in
      writes_if s u 2 5 _ ab z 2 6 _ (λ α. value α o ≡ mix α p x y) (λ α f g. four_say α (f, g)) (say_four) r cd

pub negated_known : (v l r : ℕ) → r ≡ negation l → l / 2 < v → r / 2 < v
negated_known v l r e h = subst (λ (z : ℕ). z / 2 < v) (sym e) (subst (λ (z : ℕ). z < v) (sym (negation_half l)) h)

-- one gate more
pub valued_more : (s t u : StoreView) (base : ℕ) (g : List ℕ) (k : ℕ) → Writes s (4 * k) (11 * k) (Valued base g k) t → Writes t 4 11 (λ α. value α (2 * (base + k)) ≡ mix α (get_or g (3 * k) 0) (get_or g (3 * k + 1) 0) (get_or g (3 * k + 2) 0)) u → Writes s (4 * (k + 1)) (11 * (k + 1)) (Valued base g (k + 1)) u
unfolding output
valued_more s t u base g k a b =
    let four : 4 * k + 4 ≡ 4 * (k + 1) = omega arith in
    let eleven : 11 * k + 11 ≡ 11 * (k + 1) = omega arith in
    rw (← four, ← eleven) (writes_then s t (4 * k) (11 * k) _ a u 4 11 _ (Valued base g (k + 1))
    (λ α f e. below_more _ _ f (sym (value_even α (2 * (base + k)) (base + k) refl) ∙ e))
    (λ α f. ((λ j h. f j (omega arith)), value_even α (2 * (base + k)) (base + k) refl ∙ f k (omega arith))) b)

-- the first three of the words that are left
next_left : (xs w left : List ℕ) (k : ℕ) → drop (3 * k) xs ≡ w ++ left → length w ≡ 3 → left ≡ drop (3 * (k + 1)) xs
next_left xs w left k e three =
    let all : left ≡ drop (length w) (drop (3 * k) xs) = sym (ap (λ (z : List ℕ). drop (length w) z) e ∙ drop_at w left (length w) refl) in
    let sum : 3 * k + 3 ≡ 3 * (k + 1) = omega arith in
    all ∙ ap (λ (z : ℕ). drop z (drop (3 * k) xs)) three ∙ drop-drop 3 (3 * k) xs ∙ ap (λ (z : ℕ). drop z xs) sum

next_words : (xs w left : List ℕ) (k j : ℕ) → drop (3 * k) xs ≡ w ++ left → j < length w → get_or w j 0 ≡ get_or xs (3 * k + j) 0
next_words xs w left k j e h =
    let here : get_or (w ++ left) j 0 ≡ get_or w j 0 = get_or_append_left w left 0 j h in
    let there : get_or (drop (3 * k) xs) j 0 ≡ get_or xs (3 * k + j) 0 = search (rules, places) in
    sym here ∙ ap (λ (z : List ℕ). get_or z j 0) (sym e) ∙ there

next_inside : (xs w left : List ℕ) (k : ℕ) → drop (3 * k) xs ≡ w ++ left → length w ≡ 3 → 3 * k + 3 ≤ length xs
next_inside xs w left k e three =
    let a : length (drop (3 * k) xs) ≡ length w + length left = ap length e ∙ length-append w left in
    let b = length-drop (3 * k) xs in
    omega (arith, a, b)

three_satisfied : (α : Assignment) (t w : List ℕ) (k : ℕ) → length w ≡ 3 → ((j : ℕ) → j < length w → get_or w j 0 ≡ get_or t (3 * k + j) 0) → satisfied α w ≡ claimed t k α
unfolding claimed
three_satisfied α t (a ∷ b ∷ c ∷ []) k three e =
    let p : a ≡ get_or t (3 * k) 0 = e 0 (omega arith) ∙ ap (λ (z : ℕ). get_or t z 0) (add-zero (3 * k)) in
    let q : b ≡ get_or t (3 * k + 1) 0 = e 1 (omega arith) in
    let r : c ≡ get_or t (3 * k + 2) 0 = e 2 (omega arith) in
    rw (or_false (value α c), p, q, r) refl
three_satisfied α t [] k three e = absurd (omega (arith, three))
three_satisfied α t (a ∷ []) k three e = absurd (omega (arith, three))
three_satisfied α t (a ∷ b ∷ []) k three e = absurd (omega (arith, three))
three_satisfied α t (a ∷ b ∷ c ∷ d ∷ w) k three e = absurd (omega (arith, three))

-- k of n claims are written, and these words of the others are left
pub record Claimed (s : StoreView) (claims : List ℕ) (n k : ℕ) (left : List ℕ) (t : StoreView) : Type 0 where
  pub writes : Writes s k (3 * k) (Meets claims k) t
  pub words : left ≡ drop (3 * k) (take (3 * n) claims)
  pub some : k ≤ n

module _ (s : StoreView) (claims : List ℕ) (n : ℕ) (fits : 3 * n ≤ length claims) where
  module _ (t : StoreView) (k : ℕ) (left : List ℕ) (so : Claimed s claims n k left t) where
    module _ (w left' : List ℕ) (cut : left ≡ w ++ left') (three : length w ≡ 3) where
      three_left : drop (3 * k) (take (3 * n) claims) ≡ w ++ left'
      three_left = sym so.words ∙ cut

      three_inside : 3 * k + 3 ≤ 3 * n
      three_inside =
          let a = next_inside (take (3 * n) claims) w left' k three_left three in
          let b : length (take (3 * n) claims) ≡ 3 * n = search (rules, places) in
          omega (arith, a, b)

      three_words : (j : ℕ) → j < length w → get_or w j 0 ≡ get_or claims (3 * k + j) 0
      three_words j h =
          let i : 3 * k + j < 3 * n = omega (arith, three_inside, three) in
          let e : get_or (take (3 * n) claims) (3 * k + j) 0 ≡ get_or claims (3 * k + j) 0 = search (rules, places) in
          next_words (take (3 * n) claims) w left' k j three_left h ∙ e

      pub claimed_more : (u : StoreView) → Writes t 1 (length w) (λ α. satisfied α w ≡ true) u → Claimed s claims n (k + 1) left' u
      claimed_more u x =
          let is : (α : Assignment) → satisfied α w ≡ claimed claims k α = λ α. three_satisfied α claims w k three three_words in
          let sum : 3 * k + length w ≡ 3 * (k + 1) = omega (arith, three) in
          record {
            writes = rw (← sum) (writes_then s t k (3 * k) _ so.writes u 1 (length w) _ (Meets claims (k + 1)) (λ α f e. below_more _ _ f (sym (is α) ∙ e)) (λ α f. ((λ j h. f j (omega arith)), is α ∙ f k (omega arith))) x);
            words = next_left (take (3 * n) claims) w left' k three_left three;
            some = omega (arith, three_inside);
          }

-- all of a circuit, in a store that had no clause
no_clauses : (f : List (List ℕ)) → f ≡ [] → (α : Assignment) → Models f α
no_clauses f e α k h = absurd (let l = ap length e in omega arith)

pub circuit_written : (c : Circuit) (s t u w : StoreView) → s.formula ≡ [] → s.used ≡ 0 → Writes s 1 1 (λ α. satisfied α (0 ∷ []) ≡ true) t → Writes t (4 * c.count) (11 * c.count) (Valued c.base c.words.now c.count) u → (r : Result (Unit {0}) Unfit) → WritesIf u c.claimed (3 * c.claimed) (Meets c.claims.now c.claimed) w r → WrittenIf c s w r
circuit_written c s t u w none unused a b r d =
    let ab = writes_then s t 1 1 _ a u (4 * c.count) (11 * c.count) _ (GoesC c) (λ α top gates. record { top = sym (value_even α 0 0 refl) ∙ sym (or_false (value α 0)) ∙ top; gates = gates }) (λ α o. (or_false (value α 0) ∙ value_even α 0 0 refl ∙ o.top, o.gates)) b in
    all r d ab
  where
    all : (r : Result (Unit {0}) Unfit) → WritesIf u c.claimed (3 * c.claimed) (Meets c.claims.now c.claimed) w r → Writes s (1 + 4 * c.count) (1 + 11 * c.count) (GoesC c) u → WrittenIf c s w r
    all (Err e) d ab = refused_then s u _ _ _ ab c.claimed (3 * c.claimed) (clauses_of c) (literals_of c) (omega arith) (omega arith) e d
    all (Ok _) d ab = (
      memory_on _ _ _ ab.memory d.memory,
      record {
        count = let l = ap length none in omega (arith, d.count, ab.count);
        used = omega (arith, d.used, ab.used);
        goes = λ α m. (ab.says α (d.says α m).0).1;
        meets = λ α m. (d.says α m).1;
        models = λ α o m. d.means α (ab.means α (no_clauses s.formula none α) o) m;
      },
    )

-- Answers, from what the searches found.
use Rattle.std.proofs.Common.{◌≡◌, ℕ, ◌+◌, ◌-◌, ◌*◌, ◌/◌, ◌<◌, ◌≤◌, Bool, true, false, List, length, get_or, take, drop, sym, refl, ap, ◌∙◌, subst, arith}
use Rattle.std.specs.Prelude.{Some, None, Option, Ok, Err, Result}
use Rattle.std.proofs.lemmas.List.{length-take-le, get_or-take}
use Rattle.clauses.specs.Formulas.{Assignment, Models}
use Rattle.clauses.specs.Stores.{from, to, clause, formula, Stored, Clauses}
use Rattle.clauses.proofs.Copies.{formula_used, same_formula}
use Rattle.solver.specs.Values.{assignment}
use Rattle.solver.specs.Assumptions.{HoldsAll, NoneWith}
use Rattle.descent.specs.Firsts.{FirstModel, FirstSays}
use Rattle.sat.specs.declared.Refusal.{Refusal}
use Rattle.sat.specs.declared.Refusal.TheVariants.{Bad, Few}
use Rattle.sat.specs.Under.{clauses_of, AcceptedUnder, UnderPost, Asked, Fitting, FirstPost, Roomy, FirstOf}

-- a question that was accepted
pub under_ok : (spans words assumptions values values' : List ℕ) (room : ℕ) (b : Bool) → AcceptedUnder (length values) spans words assumptions room → (b ≡ true → Models (clauses_of spans words) (assignment values')) → (b ≡ true → HoldsAll (assignment values') assumptions (length assumptions)) → (b ≡ false → NoneWith (clauses_of spans words) assumptions (length assumptions)) → (b ≡ false → values' ≡ values) → UnderPost spans words assumptions values values' room (Ok b)
under_ok spans words assumptions values values' room true a model holds none same = (a, model refl, holds refl)
under_ok spans words assumptions values values' room false a model holds none same = (a, none refl, same refl)

-- and one for the first model
pub first_ok : (spans words : List ℕ) (more_spans more_words low high : ℕ) (values values' : List ℕ) (room : ℕ) (r : Option ℕ) → Clauses (length values) spans words → Roomy (length values) spans words more_spans more_words low high room → FirstSays (clauses_of spans words) low high values values' r → FirstOf spans words more_spans more_words low high values values' room (Ok r)
first_ok spans words more_spans more_words low high values values' room (Some n) c r says = (c, r, says.first, says.few)
first_ok spans words more_spans more_words low high values values' room None c r says = (c, r, says.none, says.same)

-- what is said of clauses is said of the same clauses wherever they stand
pub first_moved : (spans spans' words words' : List ℕ) (n n' m m' low high : ℕ) (values values' : List ℕ) (room : ℕ) (r : Result (Option ℕ) Refusal) → spans ≡ spans' → words ≡ words' → n ≡ n' → m ≡ m' → FirstOf spans words n m low high values values' room r → FirstOf spans' words' n' m' low high values values' room r
first_moved spans spans' words words' n n' m m' low high values values' room r es ew en em f =
    subst (λ s. FirstOf s words' n' m' low high values values' room r) es (subst (λ w. FirstOf spans w n' m' low high values values' room r) ew (subst (λ x. FirstOf spans words x m' low high values values' room r) en (subst (λ x. FirstOf spans words n x low high values values' room r) em f)))

-- clauses that stand first in memory, and the same in memory of their own
module _ (v : ℕ) (spans words : List ℕ) (count used : ℕ) (spans_room : 2 * count ≤ length spans) (words_room : used ≤ length words) where
  abbrev own_spans : List ℕ
  own_spans = take (2 * count) spans

  abbrev own_words : List ℕ
  own_words = take used words

  spans_long : length own_spans ≡ 2 * count
  spans_long = length-take-le (2 * count) spans spans_room

  pub half : length own_spans / 2 ≡ count
  half = let l = spans_long in omega arith

  pub words_long : length own_words ≡ used
  words_long = length-take-le used words words_room

  same_from : (k : ℕ) → k < count → from own_spans k ≡ from spans k
  unfolding from
  same_from k h = get_or-take (2 * count) spans (2 * k) 0 (omega arith)

  same_to : (k : ℕ) → k < count → to own_spans k ≡ to spans k
  unfolding to
  same_to k h = get_or-take (2 * count) spans (2 * k + 1) 0 (omega arith)

  same_word : (p : ℕ) → p < used → get_or own_words p 0 ≡ get_or words p 0
  same_word p h = get_or-take used words p 0 h

  own_stored : Stored v spans words count used → Stored v own_spans own_words count used
  own_stored s =
      record {
        spans_room = omega (arith, spans_long);
        words_room = omega (arith, words_long);
        small = s.small;
        order = λ k h. let o = s.order k h in omega (arith, same_from k h, same_to k h);
        inside = λ k h. let i = s.inside k h in omega (arith, same_to k h);
        known = λ p h. subst (λ (x : ℕ). x / 2 < v) (sym (same_word p h)) (s.known p h);
      }

  pub stored_own : Stored v spans words count used → Clauses v own_spans own_words
  stored_own s = subst (λ (n : ℕ). Stored v own_spans own_words n (length own_words)) (sym half) (subst (λ (n : ℕ). Stored v own_spans own_words count n) (sym words_long) (own_stored s))

  pub own_stored_back : Clauses v own_spans own_words → Stored v spans words count used
  own_stored_back c =
      let s : Stored v own_spans own_words count used = subst (λ (n : ℕ). Stored v own_spans own_words count n) words_long (subst (λ (n : ℕ). Stored v own_spans own_words n (length own_words)) half c) in
      record {
        spans_room = spans_room;
        words_room = words_room;
        small = s.small;
        order = λ k h. let o = s.order k h in omega (arith, same_from k h, same_to k h);
        inside = λ k h. let i = s.inside k h in omega (arith, same_to k h);
        known = λ p h. subst (λ (x : ℕ). x / 2 < v) (same_word p h) (s.known p h);
      }

  same_clause : (k : ℕ) → k < count → clause own_spans own_words k ≡ clause spans own_words k
  unfolding clause
  same_clause k h =
      ap (λ (x : ℕ). take (to own_spans k - x) (drop x own_words)) (same_from k h) ∙ ap (λ (x : ℕ). take (x - from spans k) (drop (from spans k) own_words)) (same_to k h)

  pub own_formula : Stored v spans words count used → formula own_spans own_words (length own_spans / 2) ≡ formula spans words count
  own_formula s = ap (formula own_spans own_words) half ∙ same_formula spans own_words own_spans own_words count same_clause ∙ formula_used v spans words own_words count used s words_long same_word

  asked : (values : List ℕ) (high : ℕ) → v ≡ length values → v < 2147483647 → high ≤ v → Stored v spans words count used → Asked (length values) spans words count used high
  asked values high e few range s = record { few = omega arith; clauses = subst (λ (x : ℕ). Stored x spans words count used) e s; range = omega arith }

  fitting : (n low high room : ℕ) → Roomy n own_spans own_words (length spans - 2 * count) (length words - used) low high room → Fitting n spans words count used low high room
  fitting n low high room r =
      record { spans_room = omega (arith, r.spans_room); words_room = omega (arith, r.words_room); small = omega (arith, r.small, words_long); enough = omega (arith, r.enough, half) }

  roomy : (n low high room : ℕ) → Fitting n spans words count used low high room → Roomy n own_spans own_words (length spans - 2 * count) (length words - used) low high room
  roomy n low high room f =
      record { spans_room = omega (arith, f.spans_room); words_room = omega (arith, f.words_room); small = omega (arith, f.small, words_long); enough = omega (arith, f.enough, half) }

  -- what is said of the clauses with memory of their own is said of those that stand first
  pub first_post : (low high : ℕ) (values values' : List ℕ) (room : ℕ) (r : Result (Option ℕ) Refusal) → v ≡ length values → v < 2147483647 → high ≤ v → FirstOf own_spans own_words (length spans - 2 * count) (length words - used) low high values values' room r → FirstPost spans words count used low high values values' room r
  first_post low high values values' room (Ok (Some n)) e few range says =
      let s = own_stored_back (subst (λ (x : ℕ). Clauses x own_spans own_words) (sym e) says.0) in
      (asked values high e few range s, fitting (length values) low high room says.1, subst (λ f. FirstModel f (assignment values') low high) (own_formula s) says.2, says.3)
  first_post low high values values' room (Ok None) e few range says =
      let s = own_stored_back (subst (λ (x : ℕ). Clauses x own_spans own_words) (sym e) says.0) in
      (asked values high e few range s, fitting (length values) low high room says.1, subst (λ f. (α : Assignment) → Models f α → ⊥) (own_formula s) says.2, says.3)
  first_post low high values values' room (Err Bad) e few range says =
      ((λ a. says.0 (subst (λ (x : ℕ). Clauses x own_spans own_words) e (stored_own (subst (λ (x : ℕ). Stored x spans words count used) (sym e) a.clauses)))), says.1)
  first_post low high values values' room (Err Few) e few range says =
      let s = own_stored_back (subst (λ (x : ℕ). Clauses x own_spans own_words) (sym e) says.0) in
      (asked values high e few range s, (λ f. says.1 (roomy (length values) low high room f)), says.2)

-- Clauses that are kept move down over those that are not.
use Rattle.std.proofs.Common.{◌≡◌, ℕ, ◌+◌, ◌-◌, ◌*◌, ◌^◌, ◌<◌, ◌≤◌, Bool, true, false, List, [], ◌∷◌, ◌++◌, length, get_or, take, drop, set, sym, refl, ap, ◌∙◌, subst, inl, inr, arith, Bor}
use Rattle.std.specs.Fn.{Called, Mut}
use Rattle.std.specs.List.{sum_by, CopiedTo, SameBelow, SameFrom}
use Rattle.std.specs.List.Retain.{IsFiltered}
use Rattle.std.proofs.lemmas.List.FromFn.{get_or-map-range_with_len}
use Rattle.std.proofs.Math.ListN.{get_or-append}
use Rattle.std.proofs.lemmas.Bool.{cases_lt}
use Rattle.std.proofs.lemmas.List.{length-append, get_or-append_right, length-take, length-drop, get_or-take, get_or-drop, get_or-set_other, ext_get_or}
use Rattle.std.proofs.lemmas.List.Sums.{sum_by_push}
use Rattle.std.proofs.lemmas.Grind.{get_or_picked}
use Rattle.clauses.specs.Formulas.{Satisfies}
use Rattle.clauses.specs.Stores.{from, to, clause, clause_at, formula, Stored, InOrder, Known, Sound}
use Rattle.clauses.specs.declared.store.Store.TheInside.{Inside}
use Rattle.clauses.specs.Views.{StoreView}
use Rattle.clauses.specs.Keeping.{store_view}
use Rattle.clauses.specs.Retaining.{Asked, SomeOf}
use Rattle.clauses.proofs.Copies.{Copied, added_formula, added_stored, order_more, spanned_long}
use Rattle.clauses.proofs.Literals.{formula_long, formula_at, clause_known}
use Rattle.clauses.proofs.Answering.{Answered, answered_no, answered_yes}

-- what a store keeps, in the words of what it shows
pub stored_seen : (s : Inside) (t : StoreView) → store_view s ≡ t → Stored s.variables s.spans.now s.words.now s.count s.used → Stored t.variables s.spans.now s.words.now s.count t.used
stored_seen s t e i = subst (λ (x : StoreView). Stored x.variables s.spans.now s.words.now s.count x.used) e i

-- what is kept are clauses that were there: by the answers so far, and by all
pub answered_some : {P : Type 0} (R : P → List ℕ → Bool → P → Type 0) (p : P) (g : List (List ℕ)) (next : ℕ) (h : List (List ℕ)) (q : P) → Answered R p g next h q → SomeOf g h
answered_some R p g next h q a k l =
    let picked = get_or_picked a.answers g k [] (subst (λ (x : List (List ℕ)). k < length x) a.kept l) in
    (picked.1.0, picked.1.1, ap (λ (x : List (List ℕ)). get_or x k []) a.kept ∙ picked.1.2)

pub retained_some : {P : Type 0} (R : P → List ℕ → Bool → P → Type 0) (p : P) (g h : List (List ℕ)) → IsFiltered R p g h → SomeOf g h
retained_some R p g h r = answered_some R p g (length r.0) h r.1 (record { answers = r.0; long = refl; in_turn = r.3; kept = r.4 })

-- one more of those that were there is kept
some_more : (g h : List (List ℕ)) (c : List ℕ) (j : ℕ) → SomeOf g h → j < length g → c ≡ clause_at g j → SomeOf g (h ++ (c ∷ []))
some_more g h c j s l e k b = elim (cases_lt k (length h)) [
  | inl low ↦ let t = s k low in (t.0, t.1, get_or-append h (c ∷ []) [] k low ∙ t.2)
  | inr high ↦ (j, l, get_or-append_right h (c ∷ []) (length h) k [] refl high ∙ ap (λ (i : ℕ). get_or (c ∷ []) i []) (let n = length-append h (c ∷ []) in let z : k - length h ≡ 0 = omega arith in z) ∙ e)
]

-- so where each clause followed, each does
pub sound_retained : (f g h : List (List ℕ)) → Sound f g → SomeOf g h → Sound f h
sound_retained f g h s m k l α models = let t = m k l in subst (Satisfies α) (sym t.2) (s t.0 t.1 α models)

-- of the clauses before the next, so many have been kept, in so many words; those from the next on are as they were
pub record Keeping {F : Type 0} (t : Mut F (ℕ × (Bor (List ℕ) × Unit {0})) Bool) (f : F) (v : ℕ) (spans words : List ℕ) (count used : ℕ) (spans' words' : List ℕ) (next kept written : ℕ) (f' : F) : Type 0 where
  pub stored : Stored v spans' words' kept written
  pub in_order : InOrder spans' kept
  pub some : SomeOf (formula spans words count) (formula spans' words' kept)
  pub answered : InOrder spans count → Answered (Asked t) (f, 0) (formula spans words count) next (formula spans' words' kept) (f', next)
  pub low : kept ≤ next
  pub together : written ≡ sum_by length (formula spans' words' kept)
  pub within : written ≤ used
  pub behind : InOrder spans count → (k : ℕ) → next ≤ k → k < count → written ≤ from spans k
  pub spans_long : length spans' ≡ length spans
  pub words_long : length words' ≡ length words
  pub spans_after : (i : ℕ) → 2 * next ≤ i → get_or spans' i 0 ≡ get_or spans i 0
  pub words_after : (p : ℕ) → written ≤ p → get_or words' p 0 ≡ get_or words p 0

module _ {F : Type 0} (t : Mut F (ℕ × (Bor (List ℕ) × Unit {0})) Bool) (f : F) (v : ℕ) (spans words : List ℕ) (count used : ℕ) where
  pub keeping_none : Keeping t f v spans words count used spans words 0 0 0 f
  unfolding formula
  keeping_none =
      record {
        stored = record { spans_room = omega arith; words_room = omega arith; small = omega arith; order = λ k h. absurd (omega arith); inside = λ k h. absurd (omega arith); known = λ p h. absurd (omega arith) };
        in_order = λ j k jk h. absurd (omega arith);
        some = λ k h. absurd (omega arith);
        answered = λ o. record { answers = []; long = refl; in_turn = refl; kept = refl };
        low = omega arith;
        together = refl;
        within = omega arith;
        behind = λ o k l h. omega arith;
        spans_long = refl;
        words_long = refl;
        spans_after = λ i h. refl;
        words_after = λ p h. refl;
      }

  module _ (spans' words' : List ℕ) (next kept written : ℕ) (f' f'' : F) (stored : Stored v spans words count used) (keeping : Keeping t f v spans words count used spans' words' next kept written f') (inside : next < count) where
    abbrev low : ℕ
    low = from spans next

    abbrev high : ℕ
    high = to spans next

    from_same : from spans' next ≡ low
    unfolding from
    from_same = keeping.spans_after (2 * next) (omega arith)

    to_same : to spans' next ≡ high
    unfolding to
    to_same = keeping.spans_after (2 * next + 1) (omega arith)

    ordered : low ≤ high
    ordered = stored.order next inside

    within : high ≤ used
    within = stored.inside next inside

    -- where the clauses are in order, the next one lies behind what has been kept
    pub next_behind : InOrder spans count → written ≤ from spans' next
    next_behind order = omega (arith, from_same, keeping.behind order next (omega arith) inside)

    -- it lies within the words
    pub next_ordered : from spans' next ≤ to spans' next
    next_ordered = omega (arith, from_same, to_same, ordered)

    pub next_within : to spans' next ≤ length words'
    next_within = omega (arith, to_same, within, keeping.words_long, stored.words_room)

    -- a clause that does not lie behind what has been kept is passed over
    pub keeping_over : from spans' next < written → Keeping t f v spans words count used spans' words' (next + 1) kept written f'
    keeping_over before =
        record {
          stored = keeping.stored;
          in_order = keeping.in_order;
          some = keeping.some;
          answered = λ o. absurd (omega (arith, before, next_behind o));
          low = omega (arith, keeping.low);
          together = keeping.together;
          within = keeping.within;
          behind = λ o k l h. keeping.behind o k (omega arith) h;
          spans_long = keeping.spans_long;
          words_long = keeping.words_long;
          spans_after = λ i h. keeping.spans_after i (omega arith);
          words_after = keeping.words_after;
        }

    here : clause spans words next ≡ get_or (formula spans words count) next (clause spans words next)
    unfolding formula
    here = sym (get_or-map-range_with_len (λ i. clause spans words i) 0 count next next (clause spans words next) inside (omega arith))

    inside_formula : next < length (formula spans words count)
    inside_formula = omega (arith, formula_long spans words count)

    module _ (next_low : written ≤ from spans' next) where
      behind : written ≤ low
      behind = omega (arith, from_same, next_low)

      -- one that does still stands where it stood
      still : take (high - low) (drop low words') ≡ clause spans words next
      unfolding clause
      still =
          ap (take (high - low)) (ext_get_or 0 (drop low words') (drop low words)
          (length-drop low words' ∙ ap (λ (x : ℕ). x - low) keeping.words_long ∙ sym (length-drop low words))
          (λ j h. get_or-drop low words' j 0 ∙ keeping.words_after (low + j) (omega (arith, behind)) ∙ sym (get_or-drop low words j 0)))

      module _ (shown : Bor (List ℕ)) (answer : Bool) (called : Called t f' (next, (shown, tt)) answer f'') (shows : shown.now ≡ take (to spans' next - from spans' next) (drop (from spans' next) words')) where
        asked : Asked t (f', next) (clause spans words next) answer (f'', next + 1)
        asked =
            record {
              shown = shown;
              shows = shows ∙ ap (λ (x : ℕ). take (x - from spans' next) (drop (from spans' next) words')) to_same ∙ ap (λ (x : ℕ). take (high - x) (drop x words')) from_same ∙ still;
              called = called;
              next = refl;
            }

        -- a clause is not kept
        pub keeping_less : answer ≡ false → Keeping t f v spans words count used spans' words' (next + 1) kept written f''
        keeping_less refused =
            record {
              stored = keeping.stored;
              in_order = keeping.in_order;
              some = keeping.some;
              answered = λ o. answered_no _ _ _ next _ _ _ (keeping.answered o) (clause spans words next) inside_formula here (subst (λ (b : Bool). Asked t (f', next) (clause spans words next) b (f'', next + 1)) refused asked);
              low = omega (arith, keeping.low);
              together = keeping.together;
              within = keeping.within;
              behind = λ o k l h. keeping.behind o k (omega arith) h;
              spans_long = keeping.spans_long;
              words_long = keeping.words_long;
              spans_after = λ i h. keeping.spans_after i (omega arith);
              words_after = keeping.words_after;
            }

        -- or kept
        module _ (words'' : List ℕ) (accepted : answer ≡ true) (words_same : length words'' ≡ length words') (copied : CopiedTo words' words'' (from spans' next) written (to spans' next - from spans' next)) (below : SameBelow words' words'' written) (above : SameFrom words' words'' (written + (to spans' next - from spans' next))) where
          abbrev c : List ℕ
          c = clause spans words next

          size : to spans' next - from spans' next ≡ high - low
          size = ap (λ (x : ℕ). x - from spans' next) to_same ∙ ap (λ (x : ℕ). high - x) from_same

          long : length c ≡ high - low
          unfolding clause
          long = length-take (high - low) (drop low words) ∙ (let d = length-drop low words in omega (arith, within, ordered, stored.words_room))

          end_is : written + length c ≡ written + (to spans' next - from spans' next)
          end_is = ap (λ (x : ℕ). written + x) (long ∙ sym size)

          moved : Copied c written words' words'' (length c)
          unfolding clause
          moved =
              record {
                long = words_same;
                before = λ p h. below p 0 h;
                done = λ j h.
                    let b : j < high - low = omega (arith, long) in
                    let i : from spans' next + (written + j - written) ≡ low + j = omega (arith, from_same) in
                    copied (written + j) 0 (omega arith) (omega (arith, size)) ∙ ap (λ (x : ℕ). get_or words' x 0) i ∙ keeping.words_after (low + j) (omega (arith, behind))
                    ∙ sym (get_or-take (high - low) (drop low words) j 0 b ∙ get_or-drop low words j 0);
              }

          known : Known v c
          known = clause_known v spans words count used next stored inside

          room : 2 * (kept + 1) ≤ length spans'
          room = omega (arith, keeping.low, keeping.spans_long, stored.spans_room)

          words_room : written + length c ≤ length words'
          words_room = omega (arith, long, ordered, within, behind, keeping.words_long, stored.words_room)

          small : written + length c < 2 ^ 32
          small = omega (arith, long, ordered, within, behind, stored.small)

          abbrev spans_to : ℕ → List ℕ
          spans_to e = set (set spans' (2 * kept) written) (2 * kept + 1) e

          abbrev end : ℕ
          end = written + (to spans' next - from spans' next)

          stored_more : Stored v (spans_to end) words'' (kept + 1) end
          stored_more = subst (λ (e : ℕ). Stored v (spans_to e) words'' (kept + 1) e) end_is (added_stored v c spans' words' words'' kept written keeping.stored known room words_room small moved)

          formula_more : formula (spans_to end) words'' (kept + 1) ≡ formula spans' words' kept ++ (c ∷ [])
          formula_more = subst (λ (e : ℕ). formula (spans_to e) words'' (kept + 1) ≡ formula spans' words' kept ++ (c ∷ [])) end_is (added_formula v c spans' words' words'' kept written keeping.stored known room words_room small moved)

          end_low : end ≤ high
          end_low = omega (arith, size, ordered, behind)

          pub keeping_more : Keeping t f v spans words count used (spans_to end) words'' (next + 1) (kept + 1) end f''
          keeping_more =
              record {
                stored = stored_more;
                in_order = order_more spans' kept written end room keeping.in_order keeping.stored.inside;
                some = subst (SomeOf (formula spans words count)) (sym formula_more) (some_more _ _ c next keeping.some inside_formula (sym (formula_at spans words count next inside)));
                answered = λ o. subst (λ (h : List (List ℕ)). Answered (Asked t) (f, 0) (formula spans words count) (next + 1) h (f'', next + 1)) (sym formula_more) (answered_yes _ _ _ next _ _ _ (keeping.answered o) c inside_formula here (subst (λ (b : Bool). Asked t (f', next) (clause spans words next) b (f'', next + 1)) accepted asked));
                low = omega (arith, keeping.low);
                together = sym end_is ∙ ap (λ (x : ℕ). x + length c) keeping.together ∙ sym (sum_by_push length (formula spans' words' kept) c) ∙ ap (sum_by length) (sym formula_more);
                within = omega (arith, end_low, within);
                behind = λ o k l h. let b = o next k (omega arith) h in omega (arith, end_low);
                spans_long = spanned_long spans' kept written end room ∙ keeping.spans_long;
                words_long = words_same ∙ keeping.words_long;
                spans_after = λ i h.
                    let a : i ≡ 2 * kept + 1 → ⊥ = omega (arith, keeping.low) in let b : i ≡ 2 * kept → ⊥ = omega (arith, keeping.low) in
                    get_or-set_other (set spans' (2 * kept) written) (2 * kept + 1) i end 0 a ∙ get_or-set_other spans' (2 * kept) i written 0 b ∙ keeping.spans_after i (omega arith);
                words_after = λ p h. above p 0 h ∙ keeping.words_after p (omega arith);
              }

-- A chain of clauses says that a picture leads.
use Rattle.std.proofs.Common.{◌≡◌, ℕ, zero, suc, ◌+◌, ◌-◌, ◌*◌, ◌<◌, ◌≤◌, Bool, true, false, cond, not, ◌&&◌, ◌||◌, ◌∷◌, map, length, sym, refl, ap, ◌∙◌, inl, inr, add-one, arith}
use Rattle.std.specs.List.{range_with_len}
use Rattle.std.proofs.lemmas.List.FromFn.{fill_by_all}
use Rattle.std.proofs.Math.Bool.{and-true, and_assoc}
use Rattle.std.proofs.lemmas.Bool.{true≢false, false≢true, ltb-false, cases_order, and_parts}
use Rattle.descriptions.specs.Pictures.{Picture}
use Rattle.firsts.specs.Orders.{before}
use Rattle.firsts.specs.Leaders.{bit_of, source, moved, swap, led}
use Rattle.firsts.specs.Chains.{smaller, clauses, other, looks, ChainSays}
use Rattle.firsts.proofs.Places.{source_twice, source_below}

-- the clauses of n places from k on, where g says that x is smaller already
abbrev steps : Bool → (ℕ → Bool) → (ℕ → Bool) → (ℕ → Bool) → ℕ → ℕ → Bool
steps g x y look k zero = true
steps g x y look k (suc n) = cond (look k) ((g || (not (x k) || y k)) && steps (g || (not (x k) && y k)) x y look (k + 1) n) (steps g x y look (k + 1) n)

module _ (x y : ℕ → Bool) where
  steps_smaller : (look : ℕ → Bool) (k n : ℕ) → steps true x y look k n ≡ true
  steps_smaller look k zero = refl
  steps_smaller look k (suc n) = go (look k) (steps_smaller look (k + 1) n)
    where
      go : (b : Bool) → steps true x y look (k + 1) n ≡ true → cond b (steps true x y look (k + 1) n) (steps true x y look (k + 1) n) ≡ true
      go true e = e
      go false e = e

  abbrev everywhere : ℕ → Bool
  everywhere k = true

  equal_more : (k : ℕ) → ((j : ℕ) → j < k → x j ≡ y j) → x k ≡ y k → (j : ℕ) → j < k + 1 → x j ≡ y j
  equal_more k equal e j h = elim (cases_order j k) [ inl l ↦ ap x l ∙ e ∙ ap y (sym l) | inr (inl l) ↦ equal j l | inr (inr l) ↦ absurd (omega arith) ]

  skip_equal : (u v r : Bool) (s : Bool → Bool) → u ≡ v → r ≡ s false → r ≡ (not u || v) && s (not u && v)
  skip_equal true true r s e h = h
  skip_equal true false r s e h = absurd (true≢false e)
  skip_equal false true r s e h = absurd (false≢true e)
  skip_equal false false r s e h = h

  look_both : (u v : Bool) (s t : Bool → Bool) → s true ≡ true → t true ≡ true → (u ≡ v → s false ≡ t false) → (not u || v) && s (not u && v) ≡ (not u || v) && t (not u && v)
  look_both true true s t a b h = h refl
  look_both true false s t a b h = refl
  look_both false true s t a b h = a ∙ sym b
  look_both false false s t a b h = h refl

  -- a place need not be looked at where the bits are equal if all before it are
  module _ (look : ℕ → Bool) (idle : (k : ℕ) → look k ≡ false → ((j : ℕ) → j < k → x j ≡ y j) → x k ≡ y k) where
    steps_skipped : (k n : ℕ) → ((j : ℕ) → j < k → x j ≡ y j) → steps false x y look k n ≡ steps false x y everywhere k n
    steps_skipped k zero equal = refl
    steps_skipped k (suc n) equal = go (look k) refl (λ e. steps_skipped (k + 1) n (equal_more k equal e))
      where
        go : (b : Bool) → look k ≡ b → (x k ≡ y k → steps false x y look (k + 1) n ≡ steps false x y everywhere (k + 1) n) → cond b ((not (x k) || y k) && steps (not (x k) && y k) x y look (k + 1) n) (steps false x y look (k + 1) n) ≡ ((not (x k) || y k) && steps (not (x k) && y k) x y everywhere (k + 1) n)
        go true e ih = look_both (x k) (y k) (λ g. steps g x y look (k + 1) n) (λ g. steps g x y everywhere (k + 1) n) (steps_smaller look (k + 1) n) (steps_smaller everywhere (k + 1) n) ih
        go false e ih = let q = idle k e equal in skip_equal (x k) (y k) _ (λ g. steps g x y everywhere (k + 1) n) q (ih q)

  -- looking everywhere is the order
  order_step : (u v : Bool) (p q : Picture) (s : Bool → Bool) → s true ≡ true → s false ≡ not (before q p) → ((not u || v) && s (not u && v)) ≡ not (before (v ∷ q) (u ∷ p))
  order_step true true p q s a h = h
  order_step true false p q s a h = refl
  order_step false true p q s a h = a
  order_step false false p q s a h = h

  steps_order : (k n : ℕ) → steps false x y everywhere k n ≡ not (before (map y (range_with_len k n)) (map x (range_with_len k n)))
  steps_order k zero = refl
  steps_order k (suc n) = order_step (x k) (y k) (map x (range_with_len (k + 1) n)) (map y (range_with_len (k + 1) n)) (λ g. steps g x y everywhere (k + 1) n) (steps_smaller everywhere (k + 1) n) (steps_order (k + 1) n)

  steps_clauses : (look : ℕ → Bool) (k n : ℕ) → (clauses x y look k && steps (smaller x y look k) x y look k n) ≡ clauses x y look (k + n)
  steps_clauses look k zero = and-true (clauses x y look k) ∙ ap (clauses x y look) (omega arith)
  steps_clauses look k (suc n) = go (look k) refl (rw add-one at (steps_clauses look (k + 1) n)) ∙ ap (clauses x y look) (omega arith)
    where
      go : (b : Bool) → look k ≡ b → (clauses x y look (suc k) && steps (smaller x y look (suc k)) x y look (suc k) n) ≡ clauses x y look (suc k + n) → (clauses x y look k && cond b ((smaller x y look k || (not (x k) || y k)) && steps (smaller x y look k || (not (x k) && y k)) x y look (k + 1) n) (steps (smaller x y look k) x y look (k + 1) n)) ≡ clauses x y look (suc k + n)
      go true e ih = rw add-one (sym (and_assoc (clauses x y look k) (smaller x y look k || (not (x k) || y k)) _) ∙ rw e at ih)
      go false e ih = rw add-one (rw e at ih)

  clauses_steps : (look : ℕ → Bool) (n : ℕ) → clauses x y look n ≡ steps false x y look 0 n
  clauses_steps look n = sym (steps_clauses look 0 n ∙ ap (clauses x y look) (omega arith))

  -- fewer clauses are satisfied where more are
  pub clauses_fewer : (look : ℕ → Bool) (k n : ℕ) → clauses x y look (k + n) ≡ true → clauses x y look k ≡ true
  clauses_fewer look k n e = (and_parts (clauses x y look k) _ (steps_clauses look k n ∙ e)).0

-- only the bits before a place matter to what is said there
module _ (x y x' y' look : ℕ → Bool) where
  smaller_same : (k : ℕ) → ((j : ℕ) → j < k → x j ≡ x' j) → ((j : ℕ) → j < k → y j ≡ y' j) → smaller x y look k ≡ smaller x' y' look k
  smaller_same zero ex ey = refl
  smaller_same (suc k) ex ey =
      let e = smaller_same k (λ j h. ex j (omega arith)) (λ j h. ey j (omega arith)) in
      let f = ex k (omega arith) in
      let g = ey k (omega arith) in
      rw (e, f, g) refl

  pub clauses_same : (k : ℕ) → ((j : ℕ) → j < k → x j ≡ x' j) → ((j : ℕ) → j < k → y j ≡ y' j) → clauses x y look k ≡ clauses x' y' look k
  clauses_same zero ex ey = refl
  clauses_same (suc k) ex ey =
      let d = clauses_same k (λ j h. ex j (omega arith)) (λ j h. ey j (omega arith)) in
      let e = smaller_same k (λ j h. ex j (omega arith)) (λ j h. ey j (omega arith)) in
      let f = ex k (omega arith) in
      let g = ey k (omega arith) in
      rw (d, e, f, g) refl

module _ (n m a b : ℕ) (p : Picture) (ha : a < m) (hb : b < m) (long : length p ≡ n * (m * m)) where
  idle : (k : ℕ) → looks m a b k ≡ false → ((j : ℕ) → j < k → bit_of p j ≡ bit_of p (source m (swap a b) j)) → bit_of p k ≡ bit_of p (source m (swap a b) k)
  idle k e equal =
      elim (cases_order (source m (swap a b) k) k)
      [ inl l ↦ ap (bit_of p) (sym l) | inr (inl l) ↦ ap (bit_of p) (sym (source_twice a b m ha hb k)) ∙ sym (equal (source m (swap a b) k) l) | inr (inr l) ↦ absurd (let f = ltb-false k (source m (swap a b) k) e in omega arith) ]

  pub chain_led : clauses (bit_of p) (other m a b (bit_of p)) (looks m a b) (n * (m * m)) ≡ led n m a b p
  chain_led =
      clauses_steps (bit_of p) (other m a b (bit_of p)) (looks m a b) (n * (m * m))
      ∙ steps_skipped (bit_of p) (other m a b (bit_of p)) (looks m a b) idle 0 (n * (m * m)) (λ j h. absurd (omega arith))
      ∙ steps_order (bit_of p) (other m a b (bit_of p)) 0 (n * (m * m))
      ∙ ap (λ (q : Picture). not (before (moved n m (swap a b) p) q)) (sym (fill_by_all (bit_of p) p (n * (m * m)) false long (λ k h. refl)))

  -- a part of the chain is satisfied by what leads
  pub chain_part : (k : ℕ) → k ≤ n * (m * m) → led n m a b p ≡ true → clauses (bit_of p) (other m a b (bit_of p)) (looks m a b) k ≡ true
  chain_part k h e =
      clauses_fewer (bit_of p) (other m a b (bit_of p)) (looks m a b) k (n * (m * m) - k) (ap (clauses (bit_of p) (other m a b (bit_of p)) (looks m a b)) (omega arith) ∙ chain_led ∙ e)

  -- the same of any bits that are those of the picture
  module _ (x : ℕ → Bool) (drawn : (j : ℕ) → j < n * (m * m) → x j ≡ bit_of p j) where
    drawn_clauses : (k : ℕ) → k ≤ n * (m * m) → clauses x (other m a b x) (looks m a b) k ≡ clauses (bit_of p) (other m a b (bit_of p)) (looks m a b) k
    drawn_clauses k h = clauses_same x (other m a b x) (bit_of p) (other m a b (bit_of p)) (looks m a b) k (λ j l. drawn j (omega arith)) (λ j l. drawn (source m (swap a b) j) (source_below a b m ha hb n j (omega arith)))

    pub drawn_led : clauses x (other m a b x) (looks m a b) (n * (m * m)) ≡ led n m a b p
    drawn_led = drawn_clauses (n * (m * m)) (omega arith) ∙ chain_led

    pub drawn_part : (k : ℕ) → k ≤ n * (m * m) → led n m a b p ≡ true → clauses x (other m a b x) (looks m a b) k ≡ true
    drawn_part k h e = drawn_clauses k h ∙ chain_part k h e

pub chain_says : ChainSays
chain_says n m a b p ha hb long = chain_led n m a b p ha hb long

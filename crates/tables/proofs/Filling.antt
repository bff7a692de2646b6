-- Places of pairs, chains of gates, and tables filled place by place.
use Rattle.std.proofs.Common.{◌≡◌, ℕ, zero, suc, ◌+◌, ◌*◌, ◌/◌, ◌%◌, ◌<◌, ◌≤◌, Bool, true, false, not, ◌&&◌, ◌||◌, ◌⊎◌, List, ◌++◌, length, get_or, set, Some, None, Option, sym, refl, ap, ◌∙◌, subst, inl, inr, mul-le-mul_right, add-mul, one-mul, add-one, arith}
use Rattle.std.proofs.lemmas.Nat.{div-mul-add, mod-mul-add, div_below, mod_below, mul-add-lt, div-add-mod'}
use Rattle.std.proofs.lemmas.List.{get_or-set_same, get_or-set_other, get_or_append_left}
use Rattle.std.proofs.lemmas.Bool.{cases_lt}
use Rattle.descriptions.specs.declared.shapes.Pair.{Pair}
use Rattle.descriptions.specs.Shapes.{PairAt}
use Rattle.descriptions.specs.Pictures.{Relation, any}
use Rattle.descriptions.proofs.Quantifiers.{same_truth, any_some, any_at, any_cong}
use Rattle.clauses.specs.Formulas.{Assignment, value, negation}
use Rattle.clauses.proofs.Literals.{value_negation}
use Rattle.gates.specs.declared.circuit.Circuit.{Circuit}
use Rattle.gates.specs.Words.{mix, Goes, Grows, Adds, Gives}
use Rattle.gates.specs.Circuits.{GoesC, GivesC, Full, Came}
use Rattle.gates.proofs.Literals.{value_false}
use Rattle.gates.proofs.Gates.{gives_still, grows_on}
use Rattle.tables.specs.Tables.{shown, Filled, Shows, ShowsC}

-- places
pub place_lt : (m i j : ℕ) → i < m → j < m → i * m + j < m * m
place_lt m i j hi hj = mul-add-lt i m j m hi hj

pub place_parts : (m k : ℕ) → k < m * m → (k / m < m) × (k % m < m)
place_parts zero k h = absurd (omega arith)
place_parts (suc m) k h = (div_below k (suc m) (suc m) (omega arith) h, mod_below k (suc m) (omega arith))

pub at_place : (α : Assignment) (m k : ℕ) (t : List ℕ) → value α (get_or t k 0) ≡ shown α m t (k / m) (k % m)
unfolding shown
at_place α m k t = ap (λ (z : ℕ). value α (get_or t z 0)) (sym (div-add-mod' k m))

-- at a pair that was worked out
pub at_pair : (m place : ℕ) (p : Pair) (Q : ℕ → ℕ → Type 0) → PairAt place m p → Q p.first p.second → Q (place / m) (place % m)
at_pair m place p Q q x = subst (λ (i : ℕ). Q i (place % m)) q.first (subst (λ (j : ℕ). Q p.first j) q.second x)

pub filled_place : {b n m : ℕ} (t : List ℕ) (k : ℕ) → k < m * m → Filled b n m t → get_or t k 0 < 2 * (b + n)
filled_place {b} {n} {m} t k h f = let p = place_parts m k h in subst (λ (z : ℕ). get_or t z 0 < 2 * (b + n)) (div-add-mod' k m) (f.low (k / m) (k % m) p.0 p.1)

-- costs
pub cost_step : (p c : ℕ) → p * c + c ≡ (p + 1) * c
cost_step p c = sym (add-mul p 1 c ∙ ap (λ (z : ℕ). p * c + z) (one-mul c))

pub cost_last : (p q c : ℕ) → p < q → p * c + c ≤ q * c
cost_last p q c h = subst (λ (z : ℕ). z ≤ q * c) (sym (cost_step p c)) (let l : p + 1 ≤ q = omega arith in mul-le-mul_right c l)

-- gates that are added one after the other
module _ {b : ℕ} {g : List ℕ} {n : ℕ} {t : List ℕ} {c : ℕ} {b' : ℕ} {g' : List ℕ} {n' : ℕ} {t' : List ℕ} {c' : ℕ} where
  pub adds_on : {b'' : ℕ} {g'' : List ℕ} {n'' : ℕ} {t'' : List ℕ} {c'' : ℕ} (x y most : ℕ) → Adds b g n t c b' g' n' t' c' x → Adds b' g' n' t' c' b'' g'' n'' t'' c'' y → x + y ≤ most → Adds b g n t c b'' g'' n'' t'' c'' most
  adds_on x y most r s h = record { grew = grows_on r.grew s.grew; few = omega (arith, r.few, s.few) }

  pub filled_still : {m : ℕ} {u : List ℕ} → Grows b g n t c b' g' n' t' c' → Filled b n m u → Filled b' n' m u
  filled_still r f = record { low = λ i j hi hj. omega (arith, f.low i j hi hj, r.same, r.more) }

-- the same value in other words
pub gives_is : {b : ℕ} {g : List ℕ} {n l : ℕ} (v w : Assignment → Bool) → ((α : Assignment) → Goes b g n α → v α ≡ w α) → Gives b g n l v → Gives b g n l w
gives_is v w e s = record { low = s.low; is = λ α o. s.is α o ∙ e α o }

pub came_is : (d : Circuit) (o : Option ℕ) (v w : Assignment → Bool) → ((α : Assignment) → GoesC d α → v α ≡ w α) → Came d o (λ l. GivesC d l v) → Came d o (λ l. GivesC d l w)
came_is d None v w e h = h
came_is d (Some l) v w e h = gives_is v w e h

pub came_full : {R : Type 0} (d : Circuit) (o : Option R) (v : R → Type 0) → o ≡ None → Came d o v → Full d
came_full {R} d o v e h = subst (λ (z : Option R). Came d z v) e h

pub came_some : {R : Type 0} (d : Circuit) (o : Option R) (v : R → Type 0) (l : R) → o ≡ Some l → Came d o v → v l
came_some {R} d o v l e h = subst (λ (z : Option R). Came d z v) e h

pub came_shows : (d : Circuit) (o : Option (List ℕ)) (m : ℕ) (r s : Assignment → Relation) → ((α : Assignment) (i j : ℕ) → r α i j ≡ s α i j) → Came d o (λ t. ShowsC d m t r) → Came d o (λ t. ShowsC d m t s)
came_shows d None m r s e h = h
came_shows d (Some t) m r s e h = record { filled = h.filled; is = λ α o i j hi hj. h.is α o i j hi hj ∙ e α i j }

pub false_gives : {b : ℕ} {g : List ℕ} {n : ℕ} → 0 < b → Gives b g n 1 (λ α. false)
false_gives s = record { low = omega arith; is = λ α o. value_false α o.top }

-- a chain
or_swap : (a b : Bool) → (a || b) ≡ (b || a)
or_swap true true = refl
or_swap true false = refl
or_swap false true = refl
or_swap false false = refl

pub chain_on : {b : ℕ} {g : List ℕ} {n : ℕ} {t : List ℕ} {c : ℕ} {b' : ℕ} {g' : List ℕ} {n' : ℕ} {t' : List ℕ} {c' : ℕ} (k p x y l : ℕ) (f : Assignment → ℕ → Bool) → Grows b g n t c b' g' n' t' c' → Gives b g n p (λ α. any k (f α)) → ((α : Assignment) → Goes b' g' n' α → (value α x && value α y) ≡ f α k) → Gives b' g' n' l (λ α. mix α p x y) → Gives b' g' n' l (λ α. any (k + 1) (f α))
chain_on k p x y l f r u e w =
    record { low = w.low; is = λ α o. w.is α o ∙ ap (λ (z : Bool). value α p || z) (e α o) ∙ ap (λ (z : Bool). z || f α k) ((gives_still r u).is α o) ∙ or_swap (any k (f α)) (f α k) ∙ sym (ap (λ (z : ℕ). any z (f α)) (add-one k)) }

-- a table that is made up to a place
abbrev pub Upto : ℕ → List ℕ → ℕ → ℕ → List ℕ → (ℕ → Assignment → Bool) → Type 0
Upto b g n at u f = (k : ℕ) → k < at → Gives b g n (get_or u k 0) (f k)

abbrev pub UptoC : Circuit → ℕ → List ℕ → (ℕ → Assignment → Bool) → Type 0
UptoC c at u f = Upto c.base c.words.now c.count at u f

-- place by place
module _ (f : ℕ → Assignment → Bool) where
  pub upto_put : {b : ℕ} {g : List ℕ} {n : ℕ} {t : List ℕ} {c : ℕ} {b' : ℕ} {g' : List ℕ} {n' : ℕ} {t' : List ℕ} {c' : ℕ} (at : ℕ) (u : List ℕ) (l : ℕ) → Grows b g n t c b' g' n' t' c' → at < length u → Upto b g n at u f → Gives b' g' n' l (f at) → Upto b' g' n' (at + 1) (set u at l) f
  upto_put {b} {g} {n} {t} {c} {b'} {g'} {n'} {t'} {c'} at u l r lt p w k h = go k h (cases_lt k at)
    where
      go : (k : ℕ) → k < at + 1 → (k < at) ⊎ (at ≤ k) → Gives b' g' n' (get_or (set u at l) k 0) (f k)
      go k h (inl x) = subst (λ (z : ℕ). Gives b' g' n' z (f k)) (sym (get_or-set_other u at k l 0 (omega arith))) (gives_still r (p k x))
      go k h (inr x) =
          let e : at ≡ k = omega arith in
          subst (λ (z : ℕ). Gives b' g' n' (get_or (set u at l) z 0) (f z)) e (subst (λ (z : ℕ). Gives b' g' n' z (f at)) (sym (get_or-set_same u at l 0 lt)) w)

-- a table that is made up to the last pair, and what stands behind it
pub upto_all : (b : ℕ) (g : List ℕ) (n m at : ℕ) (u rest : List ℕ) (r : Assignment → Relation) → m * m ≤ at → at ≤ length u → Upto b g n at u (λ k α. r α (k / m) (k % m)) → Shows b g n m (u ++ rest) r
unfolding shown
upto_all b g n m at u rest r h long p =
    record {
      filled = record { low = λ i j hi hj. (each i j hi hj).low };
      is = λ α o i j hi hj. (each i j hi hj).is α o ∙ rw (div-mul-add i m j hj, mod-mul-add i m j hj) refl;
    }
  where
    each : (i j : ℕ) → i < m → j < m → Gives b g n (get_or (u ++ rest) (i * m + j) 0) (λ α. r α ((i * m + j) / m) ((i * m + j) % m))
    each i j hi hj = let q = place_lt m i j hi hj in rw (get_or_append_left u rest 0 (i * m + j) (omega arith)) (p (i * m + j) (omega arith))

-- some pair, row by row
any_square : (m : ℕ) (f : ℕ → ℕ → Bool) → any (m * m) (λ k. f (k / m) (k % m)) ≡ any m (λ i. any m (λ j. f i j))
any_square m f =
    same_truth _ _
    (λ e. let w = any_some (m * m) (λ k. f (k / m) (k % m)) e in let q = place_parts m w.0 w.1 in any_at m (w.0 / m) (λ i. any m (λ j. f i j)) q.0 (any_at m (w.0 % m) (λ j. f (w.0 / m) j) q.1 w.2))
    (λ e. let w = any_some m (λ i. any m (λ j. f i j)) e in let u = any_some m (λ j. f w.0 j) w.2 in
    any_at (m * m) (w.0 * m + u.0) (λ k. f (k / m) (k % m)) (place_lt m w.0 u.0 w.1 u.1) (rw (div-mul-add w.0 m u.0 u.1, mod-mul-add w.0 m u.0 u.1) u.2))

pub apart_pair : (α : Assignment) (m n : ℕ) (a b : List ℕ) → n ≡ m * m → any n (λ k. value α (get_or a k 0) && value α (negation (get_or b k 0))) ≡ any m (λ i. any m (λ j. shown α m a i j && not (shown α m b i j)))
apart_pair α m n a b e =
    ap (λ (z : ℕ). any z (λ k. value α (get_or a k 0) && value α (negation (get_or b k 0)))) e
    ∙ any_cong (m * m) _ (λ k. shown α m a (k / m) (k % m) && not (shown α m b (k / m) (k % m))) (λ k h. rw (value_negation α (get_or b k 0), at_place α m k a, at_place α m k b) refl)
    ∙ any_square m (λ i j. shown α m a i j && not (shown α m b i j))

-- Tables that need no gate.
use Rattle.std.proofs.Common.{◌≡◌, ℕ, ◌+◌, ◌*◌, ◌/◌, ◌%◌, ◌<◌, ◌≤◌, Bool, true, false, cond, ◌&&◌, eqb, List, sym, refl, ap, ◌∙◌, subst, arith}
use Rattle.std.proofs.lemmas.Nat.{div-mul-add, mod-mul-add}
use Rattle.descriptions.specs.Pictures.{Relation}
use Rattle.clauses.specs.Formulas.{Assignment, value}
use Rattle.gates.specs.Words.{Goes}
use Rattle.gates.proofs.Literals.{value_even, value_true, value_false}
use Rattle.tables.specs.Tables.{shown, Shows, Are}
use Rattle.tables.proofs.Filling.{place_lt}

constant_low : (x : Bool) (k : ℕ) → 0 < k → cond x 0 1 < 2 * k
constant_low true k h = omega arith
constant_low false k h = omega arith

constant_is : (α : Assignment) → α 0 ≡ true → (x : Bool) → value α (cond x 0 1) ≡ x
constant_is α t true = value_true α t
constant_is α t false = value_false α t

module _ {b : ℕ} {g : List ℕ} {n : ℕ} (some : 0 < b) (m : ℕ) (u : List ℕ) where
  are_shows : (f : ℕ → ℕ) (r : Assignment → Relation) → Are m u f → ((k : ℕ) → k < m * m → f k < 2 * (b + n)) → ((α : Assignment) → Goes b g n α → (i j : ℕ) → i < m → j < m → value α (f (i * m + j)) ≡ r α i j) → Shows b g n m u r
  unfolding shown
  are_shows f r are low is =
      record {
        filled = record { low = λ i j hi hj. subst (λ (z : ℕ). z < 2 * (b + n)) (sym (are (i * m + j) (place_lt m i j hi hj))) (low (i * m + j) (place_lt m i j hi hj)) };
        is = λ α o i j hi hj. ap (value α) (are (i * m + j) (place_lt m i j hi hj)) ∙ is α o i j hi hj;
      }

  -- inputs are what they are
  pub inputs_show : (first : ℕ) → first + m * m ≤ b → Are m u (λ k. 2 * (first + k)) → Shows b g n m u (λ α i j. α (first + (i * m + j)))
  inputs_show first h f = are_shows _ _ f (λ k l. omega arith) (λ α o i j hi hj. value_even α _ (first + (i * m + j)) refl)

  pub single_shows : (x : ℕ) → Are m u (λ k. cond (eqb (k / m) x && eqb (k % m) x) 0 1) → Shows b g n m u (λ α i j. eqb i x && eqb j x)
  single_shows x f = are_shows _ _ f (λ k l. constant_low _ (b + n) (omega arith)) (λ α o i j hi hj. constant_is α o.top _ ∙ rw (div-mul-add i m j hj, mod-mul-add i m j hj) refl)

  pub identity_shows : Are m u (λ k. cond (eqb (k / m) (k % m)) 0 1) → Shows b g n m u (λ α i j. eqb i j)
  identity_shows f = are_shows _ _ f (λ k l. constant_low _ (b + n) (omega arith)) (λ α o i j hi hj. constant_is α o.top _ ∙ rw (div-mul-add i m j hj, mod-mul-add i m j hj) refl)

  pub empty_shows : Are m u (λ k. 1) → Shows b g n m u (λ α i j. false)
  empty_shows f = are_shows _ _ f (λ k l. omega arith) (λ α o i j hi hj. value_false α o.top)

-- One pair of what operators make; once or more often.
use Rattle.std.proofs.Common.{◌≡◌, ℕ, ◌+◌, ◌*◌, ◌/◌, ◌%◌, ◌<◌, true, ◌&&◌, ◌||◌, List, get_or, refl, ap, ◌∙◌, add-one}
use Rattle.std.proofs.lemmas.Nat.{div-mul-add, mod-mul-add}
use Rattle.descriptions.specs.declared.Binary.TheVariants.{Union, Intersection, Difference}
use Rattle.descriptions.specs.Pictures.{reach}
use Rattle.descriptions.specs.Meaning.{combine}
use Rattle.clauses.specs.Formulas.{Assignment, value, negation}
use Rattle.clauses.proofs.Literals.{value_negation}
use Rattle.gates.specs.Words.{mix, Grows}
use Rattle.gates.proofs.Literals.{value_true, value_false}
use Rattle.gates.proofs.Gates.{goes_fewer}
use Rattle.tables.specs.Tables.{shown, Filled, Shows, Are}
use Rattle.tables.proofs.Filling.{place_lt}
use Rattle.tables.proofs.Warshall.{via, via_reach}

-- one pair of two relations
module _ (m i j here there : ℕ) (one other : List ℕ) (is : here ≡ get_or one (i * m + j) 0) (is' : there ≡ get_or other (i * m + j) 0) (α : Assignment) (top : α 0 ≡ true) where
  pub union_is : mix α here 0 there ≡ combine Union m (shown α m one) (shown α m other) i j
  unfolding shown
  union_is = rw (value_true α top, is, is') refl

  pub intersection_is : mix α 1 here there ≡ combine Intersection m (shown α m one) (shown α m other) i j
  unfolding shown
  intersection_is = rw (value_false α top, is, is') refl

  pub difference_is : (y : ℕ) → y ≡ negation there → mix α 1 here y ≡ combine Difference m (shown α m one) (shown α m other) i j
  unfolding shown
  difference_is y e = rw (value_false α top, e, value_negation α there, is, is') refl

-- turned round
pub converse_shows : {b : ℕ} {g : List ℕ} {n : ℕ} (m : ℕ) (one u : List ℕ) → Filled b n m one → Are m u (λ k. get_or one (k % m * m + k / m) 0) → Shows b g n m u (λ α i j. shown α m one j i)
unfolding shown
converse_shows m one u f are =
    let at : (i j : ℕ) → i < m → j < m → get_or u (i * m + j) 0 ≡ get_or one (j * m + i) 0 = λ i j hi hj. are (i * m + j) (place_lt m i j hi hj) ∙ rw (div-mul-add i m j hj, mod-mul-add i m j hj) refl in
    record { filled = record { low = λ i j hi hj. (let e = at i j hi hj in rw e (f.low j i hj hi)) }; is = λ α o i j hi hj. ap (value α) (at i j hi hj) }

-- by way of one thing more
pub via_on : {b : ℕ} {g : List ℕ} {n : ℕ} {t : List ℕ} {c : ℕ} {b' : ℕ} {g' : List ℕ} {n' : ℕ} {t' : List ℕ} {c' : ℕ} (m k : ℕ) (one u u' : List ℕ) → Grows b g n t c b' g' n' t' c' → k < m → Shows b g n m u (λ α. via k (shown α m one)) → Shows b' g' n' m u' (λ α i j. shown α m u i j || (shown α m u i k && shown α m u k j)) → Shows b' g' n' m u' (λ α. via (k + 1) (shown α m one))
via_on m k one u u' r h p w =
    record {
      filled = w.filled;
      is = λ α o i j hi hj.
          (let q = goes_fewer r α o in
          let x = p.is α q i j hi hj in let y = p.is α q i k hi h in let z = p.is α q k j h hj in
          w.is α o i j hi hj ∙ rw (x, y, z, add-one) refl);
    }

pub via_all : {b : ℕ} {g : List ℕ} {n : ℕ} (m k : ℕ) (one u : List ℕ) → k ≡ m → Shows b g n m u (λ α. via k (shown α m one)) → Shows b g n m u (λ α. reach m m (shown α m one))
via_all m k one u e p =
    record { filled = p.filled; is = λ α o i j hi hj. p.is α o i j hi hj ∙ ap (λ (z : ℕ). via z (shown α m one) i j) e ∙ via_reach m (shown α m one) i j }

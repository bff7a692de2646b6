-- Assignments that draw a picture.
use Rattle.std.proofs.Common.{◌≡◌, ℕ, zero, suc, ◌+◌, ◌*◌, ◌/◌, ◌%◌, ◌<◌, true, length, sym, refl, ap, ◌∙◌, inl, inr, mod-lt, mul_assoc, div-lt_iff_lt-mul, mul-zero, one-add, arith}
use Rattle.std.proofs.lemmas.Bool.{cases_eq}
use Rattle.descriptions.specs.Pictures.{Picture, relation_of}
use Rattle.clauses.specs.Formulas.{Assignment}
use Rattle.gates.specs.Views.{CircuitView, GoesV, SoundV}
use Rattle.gates.proofs.Runs.{extends_sound}
use Rattle.firsts.specs.Leaders.{bit_of, place}
use Rattle.firsts.proofs.Places.{place_of, place_below, relation_at}
use Rattle.leaders.specs.Leading.{Draws}

-- a picture's bits as inputs
drawing : Picture → Assignment
drawing p zero = true
drawing p (suc k) = bit_of p k

drawing_top : (p : Picture) → drawing p 0 ≡ true
unfolding drawing
drawing_top p = refl

drawing_bit : (p : Picture) (k : ℕ) → drawing p (1 + k) ≡ bit_of p k
unfolding drawing
drawing_bit p k = ap (drawing p) (one-add k)

-- each picture is drawn by some assignment that goes with the gates
pub record Drawing (c : CircuitView) (p : Picture) : Type 0 where
  pub assignment : Assignment
  pub goes : GoesV c assignment
  pub draws : Draws assignment p

pub drawn_by_some : (c : CircuitView) (p : Picture) → SoundV c → length p < c.base → Drawing c p
drawn_by_some c p sound inside =
    let x = extends_sound c (drawing p) sound (drawing_top p) in
    record { assignment = x.0; goes = x.1; draws = λ k h. x.2 (1 + k) (omega arith) ∙ drawing_bit p k }

-- the same by relations and pairs of things
abbrev pub Related : ℕ → ℕ → Assignment → Picture → Type 0
Related n m α p = (r i j : ℕ) → r < n → i < m → j < m → α (1 + place m r i j) ≡ relation_of m p r i j

module _ (n m : ℕ) (α : Assignment) (p : Picture) (long : length p ≡ n * (m * m)) where
  pub draws_related : Draws α p → Related n m α p
  draws_related draws r i j hr hi hj = let h = place_below m r i j hi hj n hr in draws (place m r i j) (omega arith) ∙ sym (relation_at m r i j hi hj p)

  pub related_draws : Related n m α p → Draws α p
  related_draws related k h =
      let e : n * (m * m) ≡ n * m * m = sym (mul_assoc n m m) in
      let inside : k < n * m * m = omega arith in
      let row : k / m < n * m = (div-lt_iff_lt-mul some).1 inside in
      let known : k / m / m < n = (div-lt_iff_lt-mul some).1 row in
      ap (λ (x : ℕ). α (1 + x)) (sym (place_of m k))
      ∙ related (k / m / m) (k / m % m) (k % m) known (mod-lt (k / m) some) (mod-lt k some)
      ∙ relation_at m (k / m / m) (k / m % m) (k % m) (mod-lt (k / m) some) (mod-lt k some) p
      ∙ ap (bit_of p) (place_of m k)
    where
      some : 0 < m
      some = elim (cases_eq m 0) [ inl e ↦ absurd (let f : n * (m * m) ≡ n * 0 = ap (λ (x : ℕ). n * (x * x)) e in let g = mul-zero n in omega arith) | inr e ↦ omega arith ]

-- Literals, the constants among them, and gates that need no gate.
use Rattle.std.proofs.Common.{◌≡◌, ℕ, ◌+◌, ◌*◌, ◌/◌, ◌%◌, ◌<◌, Bool, true, false, not, ◌&&◌, ◌||◌, sym, refl, ap, ◌∙◌, arith}
use Rattle.clauses.specs.Formulas.{Assignment, value, negation}
use Rattle.clauses.proofs.Literals.{value_negation}
use Rattle.gates.specs.Circuits.{Reordered, Folded}

pub value_even : (α : Assignment) (l x : ℕ) → l ≡ 2 * x → value α l ≡ α x
unfolding value
value_even α l x e =
    let a : l % 2 ≡ 0 = omega arith in
    let b : l / 2 ≡ x = omega arith in
    rw (a, b) refl

pub value_odd : (α : Assignment) (l x : ℕ) → l ≡ 2 * x + 1 → value α l ≡ not (α x)
unfolding value
value_odd α l x e =
    let a : l % 2 ≡ 1 = omega arith in
    let b : l / 2 ≡ x = omega arith in
    rw (a, b) refl

pub value_true : (α : Assignment) → α 0 ≡ true → value α 0 ≡ true
value_true α t = value_even α 0 0 refl ∙ t

pub value_false : (α : Assignment) → α 0 ≡ true → value α 1 ≡ false
value_false α t = value_odd α 1 0 refl ∙ ap not t

pub negation_low : (l b : ℕ) → l < 2 * b → negation l < 2 * b
unfolding negation
negation_low l b h = omega arith

pub negated_low : (l r b : ℕ) → r ≡ negation l → l < 2 * b → r < 2 * b
negated_low l r b e h = let n = negation_low l b h in omega arith

-- the same gate written in another way
or_comm : (a b c : Bool) → b ≡ true → (c || (b && a)) ≡ (a || (b && c))
or_comm true b true e = refl
or_comm true b false e = ap (λ (z : Bool). z && true) e
or_comm false b true e = sym (ap (λ (z : Bool). z && true) e)
or_comm false b false e = refl

pub reordered_or : (p x y : ℕ) → x ≡ 0 → Reordered p x y (record { p = y; x = x; y = p })
reordered_or p x y e = record { low = λ b h k l. (l, k, h); is = λ α t. or_comm _ _ _ (ap (value α) e ∙ value_true α t) }

-- folding
or_true : (a b : Bool) → a ≡ true → a ≡ (a || b)
or_true a b e = rw e refl

absorb_x : (a b : Bool) → a ≡ (a || (a && b))
absorb_x true b = refl
absorb_x false b = refl

absorb_y : (a b : Bool) → a ≡ (a || (b && a))
absorb_y true b = refl
absorb_y false true = refl
absorb_y false false = refl

none_x : (a b c : Bool) → b ≡ false → a ≡ (a || (b && c))
none_x true b c e = refl
none_x false b c e = rw e refl

none_y : (a b c : Bool) → c ≡ false → a ≡ (a || (b && c))
none_y true b c e = refl
none_y false true c e = sym e
none_y false false c e = refl

opposed : (a b c : Bool) → b ≡ not c → a ≡ (a || (b && c))
opposed true b c e = refl
opposed false b true e = rw e refl
opposed false true false e = refl
opposed false false false e = refl

alone_y : (a b c : Bool) → a ≡ false → b ≡ true → c ≡ (a || (b && c))
alone_y a b c e f = rw (e, f) refl

alone_x : (a b c : Bool) → a ≡ false → c ≡ true → b ≡ (a || (b && c))
alone_x a true c e f = rw (e, f) refl
alone_x a false c e f = rw e refl

alike : (a b : Bool) → a ≡ false → b ≡ (a || (b && b))
alike a true e = rw e refl
alike a false e = rw e refl

module _ (p x y : ℕ) where
  pub fold_true : p ≡ 0 → Folded p x y p
  fold_true e = record { low = λ b h _ _. h; is = λ α t. or_true _ _ (ap (value α) e ∙ value_true α t) }

  pub fold_px : p ≡ x → Folded p x y p
  fold_px e = record { low = λ b h _ _. h; is = λ α t. absorb_x (value α p) (value α y) ∙ ap (λ (l : ℕ). value α p || (value α l && value α y)) e }

  pub fold_py : p ≡ y → Folded p x y p
  fold_py e = record { low = λ b h _ _. h; is = λ α t. absorb_y (value α p) (value α x) ∙ ap (λ (l : ℕ). value α p || (value α x && value α l)) e }

  pub fold_x : x ≡ 1 → Folded p x y p
  fold_x e = record { low = λ b h _ _. h; is = λ α t. none_x _ _ _ (ap (value α) e ∙ value_false α t) }

  pub fold_y : y ≡ 1 → Folded p x y p
  fold_y e = record { low = λ b h _ _. h; is = λ α t. none_y _ _ _ (ap (value α) e ∙ value_false α t) }

  pub fold_xy : x ≡ negation y → Folded p x y p
  fold_xy e = record { low = λ b h _ _. h; is = λ α t. opposed _ _ _ (ap (value α) e ∙ value_negation α y) }

  pub fold_to_y : p ≡ 1 → x ≡ 0 → Folded p x y y
  fold_to_y e f = record { low = λ b _ _ h. h; is = λ α t. alone_y _ _ _ (ap (value α) e ∙ value_false α t) (ap (value α) f ∙ value_true α t) }

  pub fold_alike : p ≡ 1 → x ≡ y → Folded p x y y
  fold_alike e f = record { low = λ b _ _ h. h; is = λ α t. alike (value α p) (value α y) (ap (value α) e ∙ value_false α t) ∙ ap (λ (l : ℕ). value α p || (value α l && value α y)) (sym f) }

  pub fold_to_x : p ≡ 1 → y ≡ 0 → Folded p x y x
  fold_to_x e f = record { low = λ b _ h _. h; is = λ α t. alone_x _ _ _ (ap (value α) e ∙ value_false α t) (ap (value α) f ∙ value_true α t) }

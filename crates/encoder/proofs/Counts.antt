-- How many gates there are.
use Rattle.std.proofs.Common.{◌≡◌, ℕ, suc, ◌+◌, ◌*◌, ◌^◌, ◌<◌, ◌≤◌, max, List, ◌++◌, length, sym, ap, ◌∙◌, subst, mul_assoc, mul_comm, add-mul, mul-le-mul, mul-le-mul_left, one-mul, mul-zero, mul-one, arith, length-append}
use native.Mathlib.Nat.{pow-succ', pow-zero, one-le-pow, pow-le-pow_right}
use Rattle.descriptions.specs.declared.Unary.{Unary}
use Rattle.descriptions.specs.declared.Unary.TheVariants.{Converse, Closure, Domain}
use Rattle.descriptions.specs.declared.Binary.{Binary}
use Rattle.descriptions.specs.declared.Binary.TheVariants.{Union, Intersection, Difference, Composition}
use Rattle.descriptions.specs.Meaning.{Expression, named, thing, identity, empty, unary, binary, Sentence, within, nonempty, negation, both, for_every}
use Rattle.descriptions.specs.Bytes.{write_e, write_s, depth}
use Rattle.tables.specs.Tables.{combine_cost, transform_cost}
use Rattle.encoder.specs.Encoding.{size_e, size_s}
use Rattle.encoder.specs.Theorems.{GatesAreFew}

one_more : (x k : ℕ) → suc x * k ≡ x * k + k
one_more x k = let e : suc x ≡ x + 1 = omega arith in ap (λ (z : ℕ). z * k) e ∙ add-mul x 1 k ∙ ap (λ (z : ℕ). x * k + z) (one-mul k)

two_more : (a b : List ℕ) (k : ℕ) → suc (length (a ++ b)) * k ≡ length a * k + length b * k + k
two_more a b k = one_more (length (a ++ b)) k ∙ ap (λ (z : ℕ). z * k + k) (length-append a b) ∙ ap (λ (z : ℕ). z + k) (add-mul (length a) (length b) k)

module _ (m k : ℕ) (one : m * m * 1 ≤ k) (three : m * m * m ≤ k) where
  transform_costs : (o : Unary) → transform_cost o m ≤ k
  transform_costs Converse = omega (arith, mul-zero (m * m))
  transform_costs Closure = omega (arith, mul_assoc m m m)
  transform_costs Domain = three

  combine_costs : (o : Binary) → combine_cost o m ≤ k
  combine_costs Union = one
  combine_costs Intersection = one
  combine_costs Difference = one
  combine_costs Composition = three

  size_expression : (e : Expression) → size_e m e ≤ length (write_e e) * k
  size_expression (named r) = omega arith
  size_expression (thing x) = omega arith
  size_expression identity = omega arith
  size_expression empty = omega arith
  size_expression (unary o a) = omega (arith, size_expression a, transform_costs o, one_more (length (write_e a)) k)
  size_expression (binary o a b) = omega (arith, size_expression a, size_expression b, combine_costs o, two_more (write_e a) (write_e b) k)

cube : (x : ℕ) → x * x * x ≡ x ^ 3
cube x = sym (pow-succ' x 2 ∙ ap (λ (z : ℕ). x * z) (pow-succ' x 1 ∙ ap (λ (z : ℕ). x * z) (pow-succ' x 0 ∙ ap (λ (z : ℕ). x * z) (pow-zero x) ∙ mul-one x)) ∙ sym (mul_assoc x x x))

power : (x q : ℕ) → x ^ (3 + (q + 1)) ≡ x * x ^ (3 + q)
power x q = let e : 3 + (q + 1) ≡ suc (3 + q) = omega arith in ap (λ (z : ℕ). x ^ z) e ∙ pow-succ' x (3 + q)

module _ (m x : ℕ) (up : m ≤ x) (some : 1 ≤ x) where
  three : m * m * m ≤ x ^ 3
  three = subst (λ (z : ℕ). m * m * m ≤ z) (cube x) (mul-le-mul (mul-le-mul up up) up)

  one : m * m * 1 ≤ x ^ 3
  one = subst (λ (z : ℕ). m * m * 1 ≤ z) (cube x) (mul-le-mul (mul-le-mul up up) some)

  positive : (q : ℕ) → 1 ≤ x ^ (3 + q)
  positive q = one-le-pow (3 + q) x some

  wider : (y q r : ℕ) → q ≤ r → y * x ^ (3 + q) ≤ y * x ^ (3 + r)
  wider y q r h = let l : 3 + q ≤ 3 + r = omega arith in let z : 0 < x = omega (arith, some) in mul-le-mul_left y (pow-le-pow_right z l)

  times : (s l k : ℕ) → s ≤ l * k → 1 ≤ k → m * (s + 1) ≤ suc l * (x * k)
  times s l k h p =
      let a : s + 1 ≤ l * k + k = omega arith in
      let b : m * (s + 1) ≤ x * (l * k + k) = mul-le-mul up a in
      let e : x * (l * k + k) ≡ suc l * (x * k) = ap (λ (z : ℕ). x * z) (sym (one_more l k)) ∙ sym (mul_assoc x (suc l) k) ∙ ap (λ (z : ℕ). z * k) (mul_comm x (suc l)) ∙ mul_assoc (suc l) x k in
      subst (λ (z : ℕ). m * (s + 1) ≤ z) e b

  size_sentence : (c : Sentence) → size_s m c ≤ length (write_s c) * x ^ (3 + depth c)
  size_sentence (within a b) = omega (arith, size_expression m (x ^ 3) one three a, size_expression m (x ^ 3) one three b, two_more (write_e a) (write_e b) (x ^ 3), one, mul-one (m * m))
  size_sentence (nonempty a) = omega (arith, size_expression m (x ^ 3) one three a, one_more (length (write_e a)) (x ^ 3), one, mul-one (m * m))
  size_sentence (negation c) = omega (arith, size_sentence c, one_more (length (write_s c)) (x ^ (3 + depth c)))
  size_sentence (both c d) =
      let h : depth c ≤ max (depth c) (depth d) = omega arith in
      let k : depth d ≤ max (depth c) (depth d) = omega arith in
      omega (arith, size_sentence c, size_sentence d, wider (length (write_s c)) (depth c) (max (depth c) (depth d)) h, wider (length (write_s d)) (depth d) (max (depth c) (depth d)) k, two_more (write_s c) (write_s d) (x ^ (3 + max (depth c) (depth d))), positive (max (depth c) (depth d)))
  size_sentence (for_every c) = subst (λ (z : ℕ). m * (size_s m c + 1) ≤ suc (length (write_s c)) * z) (sym (power x (depth c))) (times (size_s m c) (length (write_s c)) (x ^ (3 + depth c)) (size_sentence c) (positive (depth c)))

pub gates_are_few : GatesAreFew
gates_are_few m x c h k = size_sentence m x h k c

-- The answers of a closure that is asked about each element of a list in turn.
use Rattle.std.proofs.Common.{◌≡◌, ℕ, ◌+◌, ◌<◌, Bool, true, false, List, [], ◌∷◌, ◌++◌, length, get_or, sym, refl, ap, ◌∙◌, subst, arith}
use Rattle.std.specs.List.{items_where_true}
use Rattle.std.specs.List.Retain.{ReturnsInTurn, IsFiltered}
use Rattle.std.proofs.lemmas.List.{length-append}

module _ {X : Type 0} where
  where_true-push_true : (bs : List Bool) (xs : List X) (d : X) → length bs < length xs → items_where_true (bs ++ true ∷ []) xs ≡ items_where_true bs xs ++ get_or xs (length bs) d ∷ []
  where_true-push_true bs [] d l = absurd (omega arith)
  where_true-push_true [] (x ∷ xs) d l = refl
  where_true-push_true (true ∷ bs) (x ∷ xs) d l = ap (λ ys. x ∷ ys) (where_true-push_true bs xs d (omega arith))
  where_true-push_true (false ∷ bs) (x ∷ xs) d l = where_true-push_true bs xs d (omega arith)

  where_true-push_false : (bs : List Bool) (xs : List X) → items_where_true (bs ++ false ∷ []) xs ≡ items_where_true bs xs
  where_true-push_false [] [] = refl
  where_true-push_false [] (x ∷ xs) = refl
  where_true-push_false (b ∷ bs) [] = refl
  where_true-push_false (true ∷ bs) (x ∷ xs) = ap (λ ys. x ∷ ys) (where_true-push_false bs xs)
  where_true-push_false (false ∷ bs) (x ∷ xs) = where_true-push_false bs xs

  in_turn-push : {P : Type 0} (R : P → X → Bool → P → Type 0) (p q r : P) (bs : List Bool) (xs : List X) (x : X) (b : Bool) → length bs < length xs → x ≡ get_or xs (length bs) x → ReturnsInTurn R p bs xs q → R q x b r → ReturnsInTurn R p (bs ++ b ∷ []) xs r
  in_turn-push R p q r bs [] x b l is t s = absurd (omega arith)
  in_turn-push R p q r [] (y ∷ xs) x b l is t s = (r, subst (λ z. R p z b r) is (subst (λ z. R z x b r) (sym t) s), refl)
  in_turn-push R p q r (a ∷ bs) (y ∷ xs) x b l is t s = (t.0, t.1, in_turn-push R t.0 q r bs xs x b (omega arith) is t.2 s)

-- the answers so far, and what they keep
pub record Answered {P X : Type 0} (R : P → X → Bool → P → Type 0) (p : P) (g : List X) (next : ℕ) (h : List X) (q : P) : Type 0 where
  pub answers : List Bool
  pub long : length answers ≡ next
  pub in_turn : ReturnsInTurn R p answers g q
  pub kept : h ≡ items_where_true answers g

module _ {P X : Type 0} (R : P → X → Bool → P → Type 0) (p : P) (g : List X) where
  pub answered_all : (n : ℕ) (h : List X) (q : P) → n ≡ length g → Answered R p g n h q → IsFiltered R p g h
  answered_all n h q e a = (a.answers, q, a.long ∙ e, a.in_turn, a.kept)

  module _ (next : ℕ) (h : List X) (q r : P) (a : Answered R p g next h q) (c : X) (inside : next < length g) (is : c ≡ get_or g next c) where
    at : c ≡ get_or g (length a.answers) c
    at = is ∙ ap (λ (i : ℕ). get_or g i c) (sym a.long)

    long_more : (b : Bool) → length (a.answers ++ b ∷ []) ≡ next + 1
    long_more b = length-append a.answers (b ∷ []) ∙ ap (λ (i : ℕ). i + 1) a.long

    pub answered_no : R q c false r → Answered R p g (next + 1) h r
    answered_no s =
        record {
          answers = a.answers ++ false ∷ [];
          long = long_more false;
          in_turn = in_turn-push R p q r a.answers g c false (omega (arith, a.long)) at a.in_turn s;
          kept = a.kept ∙ sym (where_true-push_false a.answers g);
        }

    pub answered_yes : R q c true r → Answered R p g (next + 1) (h ++ (c ∷ [])) r
    answered_yes s =
        record {
          answers = a.answers ++ true ∷ [];
          long = long_more true;
          in_turn = in_turn-push R p q r a.answers g c true (omega (arith, a.long)) at a.in_turn s;
          kept = ap (λ (x : List X). x ++ (c ∷ [])) a.kept ∙ ap (λ (x : X). items_where_true a.answers g ++ (x ∷ [])) at ∙ sym (where_true-push_true a.answers g c (omega (arith, a.long)));
        }

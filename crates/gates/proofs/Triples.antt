-- Three words, put behind others.
use Rattle.std.proofs.Common.{◌≡◌, ℕ, ◌+◌, ◌*◌, ◌<◌, ◌≤◌, List, [], ◌∷◌, ◌++◌, length, get_or, take, drop, sym, subst, rules}
use Rattle.std.proofs.lemmas.List.{places}

pub record Put (g : List ℕ) (n p x y : ℕ) (g' : List ℕ) : Type 0 where
  pub size : length g' ≡ length g
  pub kept : (i : ℕ) → i < 3 * n → get_or g' i 0 ≡ get_or g i 0
  pub at_p : get_or g' (3 * n) 0 ≡ p
  pub at_x : get_or g' (3 * n + 1) 0 ≡ x
  pub at_y : get_or g' (3 * n + 2) 0 ≡ y

triple : (g : List ℕ) (n k p x y : ℕ) → 3 * n + 3 ≤ length g → k ≡ 3 → Put g n p x y (take (3 * n) g ++ ((p ∷ x ∷ y ∷ []) ++ drop k (drop (3 * n) g)))
triple g n k p x y fits three =
    record {
      size = search (rules, places);
      kept = λ i h. search (rules, places);
      at_p = search (rules, places);
      at_x = search (rules, places);
      at_y = search (rules, places);
    }

pub put : (g w : List ℕ) (n k p x y : ℕ) → 3 * n + 3 ≤ length g → k ≡ 3 → w ≡ p ∷ x ∷ y ∷ [] → Put g n p x y (take (3 * n) g ++ (w ++ drop k (drop (3 * n) g)))
put g w n k p x y fits three is = subst (λ (z : List ℕ). Put g n p x y (take (3 * n) g ++ (z ++ drop k (drop (3 * n) g)))) (sym is) (triple g n k p x y fits three)

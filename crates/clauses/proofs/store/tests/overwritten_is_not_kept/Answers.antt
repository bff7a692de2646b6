use Rattle.std.proofs.Common.{ℕ, ◌<◌, ◌≤◌, ◌/◌, ◌+◌, ◌∷◌, [], get_or, arith, zero, suc}
use Rattle.clauses.specs.Stores.{from, to}
use Rattle.clauses.proofs.store.tests.overwritten_is_not_kept.Goals as goal

-- what is so of 0 and 1, and of two more
two : (P : ℕ → Type 0) → P 0 → P 1 → (k : ℕ) → k < 2 → P k
two P a b zero h = a
two P a b (suc zero) h = b
two P a b (suc (suc k)) h = absurd (omega arith)

four : (P : ℕ → Type 0) → P 0 → P 1 → P 2 → P 3 → (k : ℕ) → k < 4 → P k
four P a b c d zero h = a
four P a b c d (suc zero) h = b
four P a b c d (suc (suc k)) h = two (λ j. P (suc (suc j))) c d k (omega arith)

pub over-store-requires : goal.over-store-requires
unfolding from to
over-store-requires g c =
    record {
      spans_room = omega arith;
      words_room = omega arith;
      small = omega arith;
      order = two (λ k. from (2 ∷ 4 ∷ 0 ∷ 2 ∷ []) k ≤ to (2 ∷ 4 ∷ 0 ∷ 2 ∷ []) k) (omega arith) (omega arith);
      inside = two (λ k. to (2 ∷ 4 ∷ 0 ∷ 2 ∷ []) k ≤ 4) (omega arith) (omega arith);
      known = four (λ p. get_or (4 ∷ 6 ∷ 0 ∷ 2 ∷ []) p 0 / 2 < 4) (omega arith) (omega arith) (omega arith) (omega arith);
    }

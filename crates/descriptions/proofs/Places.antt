-- Where the bit of a pair stands in a picture.
use Rattle.std.proofs.Common.{◌≡◌, ℕ, ◌+◌, ◌*◌, ap, ◌∙◌, add_assoc, add-mul, mul_assoc}

-- behind the relations before its own, at the pair's place
pub place_sum : (m r i j : ℕ) → (r * m + i) * m + j ≡ r * (m * m) + (i * m + j)
place_sum m r i j = ap (λ (x : ℕ). x + j) (add-mul (r * m) i m ∙ ap (λ (x : ℕ). x + i * m) (mul_assoc r m m)) ∙ add_assoc (r * (m * m)) (i * m) j

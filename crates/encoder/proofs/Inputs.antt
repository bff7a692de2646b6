-- Variables of pictures.
use Rattle.std.proofs.Common.{◌≡◌, ℕ, ◌+◌, ◌*◌, ◌<◌, false, get_or, sym, ap, ◌∙◌, arith}
use Rattle.std.proofs.lemmas.Bool.{lt-ltb}
use Rattle.descriptions.specs.Pictures.{Picture, relation_of}
use Rattle.descriptions.proofs.Places.{place_sum}
use Rattle.clauses.specs.Formulas.{Assignment}
use Rattle.evaluator.proofs.Pictures.{row_fits}
use Rattle.tables.proofs.Filling.{place_lt}
use Rattle.encoder.specs.Encoding.{Draws}

-- the place of a pair's bit
place_low : (n r m i j : ℕ) → r < n → i < m → j < m → r * (m * m) + (i * m + j) < n * (m * m)
place_low n r m i j h hi hj = omega (arith, row_fits r n (m * m) h, place_lt m i j hi hj)

relation_bit : (m : ℕ) (p : Picture) (r i j : ℕ) → i < m → j < m → relation_of m p r i j ≡ get_or p (r * (m * m) + (i * m + j)) false
relation_bit m p r i j hi hj = rw (lt-ltb i m hi, lt-ltb j m hj) (ap (λ (z : ℕ). get_or p z false) (place_sum m r i j))

-- and its variable
pub bit_drawn : (n m : ℕ) (α : Assignment) (p : Picture) (r i j : ℕ) → r < n → i < m → j < m → Draws (n * (m * m)) α p → α (1 + r * (m * m) + (i * m + j)) ≡ relation_of m p r i j
bit_drawn n m α p r i j h hi hj d =
    let e : 1 + r * (m * m) + (i * m + j) ≡ 1 + (r * (m * m) + (i * m + j)) = omega arith in
    ap α e ∙ d (r * (m * m) + (i * m + j)) (place_low n r m i j h hi hj) ∙ sym (relation_bit m p r i j hi hj)

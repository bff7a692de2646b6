-- The work words that have to be lent are few.
use Rattle.std.proofs.Common.{ℕ, ◌+◌, ◌*◌, ◌^◌, ◌≤◌, arith}
use native.Mathlib.Nat.{pow-le-pow_left, pow-le-pow_right}
use Rattle.std.proofs.lemmas.Nat.{mul-le}

-- 9 ^ 7 is the largest power that is needed
pub power_small : (most depth : ℕ) → most ≤ 8 → depth ≤ 4 → (most + 1) ^ (3 + depth) ≤ 4782969
power_small most depth m d =
    let e : 3 + depth ≤ 7 = omega arith in
    let a : (most + 1) ^ (3 + depth) ≤ 9 ^ (3 + depth) = pow-le-pow_left (omega arith) (3 + depth) in
    let b : 9 ^ (3 + depth) ≤ 9 ^ 7 = pow-le-pow_right (omega arith) e in
    omega arith

pub work_small : (bytes most depth : ℕ) → bytes ≤ 512 → most ≤ 8 → depth ≤ 4 → bytes * ((most + 1) ^ (3 + depth)) ≤ 2448880128
work_small bytes most depth b m d = mul-le bytes ((most + 1) ^ (3 + depth)) 512 4782969 b (power_small most depth m d)

-- 'For every' stands at most four deep in what is well formed.
use Rattle.std.proofs.Common.{◌≡◌, ℕ, ◌+◌, ◌-◌, ◌≤◌, true, ltb, arith}
use Rattle.std.proofs.lemmas.Bool.{and_parts, ltb-true}
use Rattle.descriptions.specs.Meaning.{Sentence, within, nonempty, negation, both, for_every}
use Rattle.descriptions.specs.Bytes.{fine_s, depth}

pub depth_fine : (n k : ℕ) (c : Sentence) → fine_s n k c ≡ true → depth c ≤ 4 - k
depth_fine n k (within a b) ok = omega arith
depth_fine n k (nonempty a) ok = omega arith
depth_fine n k (negation c) ok = depth_fine n k c ok
depth_fine n k (both c d) ok =
    let p = and_parts (fine_s n k c) (fine_s n k d) ok in
    let x = depth_fine n k c p.0 in let y = depth_fine n k d p.1 in omega arith
depth_fine n k (for_every c) ok =
    let p = and_parts (ltb k 4) (fine_s n (k + 1) c) ok in
    let l = ltb-true k 4 p.0 in let x = depth_fine n (k + 1) c p.1 in omega arith

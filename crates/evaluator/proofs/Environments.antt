-- Things spoken of.
use Rattle.std.proofs.Common.{◌≡◌, ℕ, zero, suc, ◌<◌, List, [], ◌∷◌, get_or, take, refl, arith}
use Rattle.descriptions.specs.Meaning.{spoken}

pub spoken_at : (l : List ℕ) (n x : ℕ) → x < n → spoken (take n l) x ≡ get_or l x 0
spoken_at l zero x h = absurd (omega arith)
spoken_at [] (suc n) x h = refl
spoken_at (i ∷ l) (suc n) zero h = refl
spoken_at (i ∷ l) (suc n) (suc x) h = spoken_at l n x (omega arith)

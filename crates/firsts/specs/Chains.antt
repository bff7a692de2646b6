-- That a picture leads, place by place: the form that gates and clauses take.
use Rattle.std.specs.Prelude.{◌≡◌, ℕ, zero, suc, ◌+◌, ◌-◌, ◌*◌, ◌<◌, ◌≤◌, Bool, true, false, cond, not, ◌&&◌, ◌||◌, length, nat_lt}
use Rattle.descriptions.specs.Pictures.{Picture}
use Rattle.firsts.specs.Leaders.{bit_of, source, swap, led}

-- bits x and y, compared at the places that are looked at: smaller already, before place k
abbrev pub smaller : (ℕ → Bool) → (ℕ → Bool) → (ℕ → Bool) → ℕ → Bool
smaller x y looks zero = false
smaller x y looks (suc k) = cond (looks k) (smaller x y looks k || (not (x k) && y k)) (smaller x y looks k)

-- each of the clauses before place k is true: smaller already, or not larger here
abbrev pub clauses : (ℕ → Bool) → (ℕ → Bool) → (ℕ → Bool) → ℕ → Bool
clauses x y looks zero = true
clauses x y looks (suc k) = cond (looks k) (clauses x y looks k && (smaller x y looks k || (not (x k) || y k))) (clauses x y looks k)

-- for a transposition: the bit that comes to a place, and of each two places that change bits only the first is looked at
abbrev pub other : ℕ → ℕ → ℕ → (ℕ → Bool) → ℕ → Bool
other m a b x k = x (source m (swap a b) k)

abbrev pub looks : ℕ → ℕ → ℕ → ℕ → Bool
looks m a b k = nat_lt k (source m (swap a b) k)

-- how many of the places before k are looked at
abbrev pub links : (ℕ → Bool) → ℕ → ℕ
links look zero = 0
links look (suc k) = cond (look k) 1 0 + links look k

-- the clauses at all places say that the picture leads
abbrev pub ChainSays : Type 0
ChainSays = (n m a b : ℕ) (p : Picture) → a < m → b < m → length p ≡ n * (m * m) → clauses (bit_of p) (other m a b (bit_of p)) (looks m a b) (n * (m * m)) ≡ led n m a b p

-- and they are few: in each relation a row of m places, and one place in each row but two
abbrev pub ChainShort : Type 0
ChainShort = (n m a b : ℕ) → a < b → b < m → links (looks m a b) (n * (m * m)) ≤ 2 * (n * (m - 1))

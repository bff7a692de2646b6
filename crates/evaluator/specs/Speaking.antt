-- The things that 'for every' speaks of.
use Rattle.std.specs.Prelude.{◌≡◌, ℕ, ◌+◌, ◌<◌, ◌≤◌, List, [], ◌∷◌, take, slice_index, Some, None, Option}
use Rattle.evaluator.specs.declared.speaking.Environment.{Environment}

-- the newest first
abbrev pub seen : Environment → List ℕ
seen v = take v.count v.things

-- each one of m things
abbrev pub Sees : ℕ → Environment → Type 0
Sees m v = (x : ℕ) → x < v.count → slice_index v.things x < m

-- one thing more is spoken of
pub record Extended (v : Environment) (i : ℕ) (r : Environment) : Type 0 where
  pub counts : r.count ≡ v.count + 1
  pub newest : seen r ≡ i ∷ seen v
  pub sees : (m : ℕ) → Sees m v → i < m → Sees m r

-- nothing is spoken of
pub record Silent (v : Environment) : Type 0 where
  pub none : seen v ≡ []
  pub count : v.count ≡ 0
  pub sees : (m : ℕ) → Sees m v

-- the thing with number x, if it is spoken of
abbrev pub ThingAt : Environment → ℕ → Option ℕ → Type 0
ThingAt v x None = v.count ≤ x
ThingAt v x (Some i) = (x < v.count) × (i ≡ slice_index v.things x)

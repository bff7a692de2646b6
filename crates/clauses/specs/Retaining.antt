-- Keeping some of the clauses: each is asked about in turn.
use Rattle.std.specs.Prelude.{◌≡◌, ℕ, ◌+◌, ◌<◌, Bool, List, length}
use Rattle.std.specs.Borrow.{Bor}
use Rattle.std.specs.Fn.{Called, Mut}
use Rattle.std.specs.List.Retain.{IsFiltered}
use Rattle.clauses.specs.Stores.{clause_at}

-- a closure that is asked about a clause, with the next number, answers b, and is another one then
pub record Asked {F : Type 0} (w : Mut F (ℕ × (Bor (List ℕ) × Unit {0})) Bool) (p : F × ℕ) (c : List ℕ) (b : Bool) (q : F × ℕ) : Type 0 where
  pub shown : Bor (List ℕ)
  pub shows : shown.now ≡ c
  pub called : Called w p.0 (p.1, (shown, tt)) b q.0
  pub next : q.1 ≡ p.1 + 1

-- h has the clauses of g that the closure wants, in their order: it is asked about each once, in order, the first one being number 0
abbrev pub Retains : {F : Type 0} → Mut F (ℕ × (Bor (List ℕ) × Unit {0})) Bool → F → List (List ℕ) → List (List ℕ) → Type 0
Retains w f g h = IsFiltered (Asked w) (f, 0) g h

-- each clause of h is one of g
abbrev pub SomeOf : List (List ℕ) → List (List ℕ) → Type 0
SomeOf g h = (k : ℕ) → k < length h → (j : ℕ) × (j < length g) × (clause_at h k ≡ clause_at g j)

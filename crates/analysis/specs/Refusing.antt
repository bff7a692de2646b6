-- The clause of the negated decisions.
use Rattle.std.specs.Prelude.{◌≡◌, ◌≢◌, ℕ, zero, suc, ◌+◌, ◌<◌, ◌⊎◌, if◌then◌else◌, List, length, Some, None, Option, ◌==◌, slice_index}
use Rattle.clauses.specs.Stores.{Known, Follows}
use Rattle.propagation.specs.Views.{SearchView, variables_of, formula_of}
use Rattle.analysis.specs.Views.{AnalysisView, clause_of}

-- how many of the first n places are decisions
abbrev pub decisions : List ℕ → ℕ → ℕ
decisions marks zero = 0
decisions marks (suc n) = decisions marks n + (if slice_index marks n == 1 then 1 else 0)

-- a clause that every model satisfies, of as many literals as there are decisions, and where the last of them stands
pub record Refused (s : SearchView) (clause : List ℕ) (last : ℕ) : Type 0 where
  pub known : Known (variables_of s) clause
  pub follows : Follows (formula_of s) clause
  pub size : length clause ≡ decisions s.trail.marks s.trail.len
  pub within : last < s.trail.len
  pub decided : slice_index s.trail.marks last ≡ 1
  pub later : (q : ℕ) → last < q → q < s.trail.len → slice_index s.trail.marks q ≢ 1

-- or there is no decision, or no room for so many literals
abbrev pub RefusedIf : SearchView → AnalysisView → Option ℕ → Type 0
RefusedIf s a None = (decisions s.trail.marks s.trail.len ≡ 0) ⊎ (length a.buffer < decisions s.trail.marks s.trail.len)
RefusedIf s a (Some last) = Refused s (clause_of a) last

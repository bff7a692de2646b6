-- What callers see of an analysis: which variables are marked, all that were marked once, and the clause in the buffer.
use Rattle.std.specs.Prelude.{◌≡◌, ℕ, List, length, take}

pub record AnalysisView : Type 0 where
  pub seen : List ℕ
  pub touched : List ℕ
  pub count : ℕ
  pub buffer : List ℕ
  pub size : ℕ

-- the variables that were met, and the clause
abbrev pub met_of : AnalysisView → List ℕ
met_of a = take a.count a.touched

abbrev pub clause_of : AnalysisView → List ℕ
clause_of a = take a.size a.buffer

-- the same marks, and maybe another clause, in a buffer as long
pub record SameMarks (a b : AnalysisView) : Type 0 where
  pub seen : b.seen ≡ a.seen
  pub touched : b.touched ≡ a.touched
  pub count : b.count ≡ a.count
  pub buffer : length b.buffer ≡ length a.buffer

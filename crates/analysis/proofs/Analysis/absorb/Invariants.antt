use Rattle.std.proofs.Common.{◌≡◌, ◌≢◌, ℕ, ◌<◌, length, get_or}
use Rattle.propagation.specs.Views.{formula_of}
use Rattle.analysis.specs.Marking.{Grown, Taken}
use Rattle.analysis.proofs.Analysis.absorb.Given as goal

abbrev pub invariant-loop-literal : goal.invariant-loop-literal
invariant-loop-literal l = record {
  size : length l.self.seen ≡ length l.initial.self.seen;
  grown : Grown l.initial.self.seen l.self.seen;
  taken : (p : ℕ) → p < l.literal-index → get_or l.clause p 0 ≢ l.except → Taken (formula_of l.search) l.search.trail.values l.self.seen l.except (get_or l.clause p 0);
}

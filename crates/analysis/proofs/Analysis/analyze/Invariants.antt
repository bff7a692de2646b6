use Rattle.std.proofs.Common.{◌≡◌, length}
use Rattle.analysis.specs.Marking.{ApartA}
use Rattle.analysis.proofs.Analysis.analyze.Given as goal

abbrev pub invariant-loop-place : goal.invariant-loop-place
invariant-loop-place l = record {
  size : length l.self.seen ≡ length l.fn.self.seen;
  apart : ApartA l.search l.self;
}

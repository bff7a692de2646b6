use Rattle.std.proofs.Common.{◌≡◌, length}
use Rattle.analysis.specs.Marking.{ApartA}
use Rattle.analysis.proofs.Analysis.minimize.Given as goal

abbrev pub invariant-loop-index : goal.invariant-loop-index
invariant-loop-index l = record {
  size : length l.self.seen ≡ length l.initial.self.seen;
  apart : ApartA l.search l.self;
}

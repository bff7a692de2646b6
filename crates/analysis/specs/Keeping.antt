-- What an analysis shows and keeps.
use Rattle.std.specs.Prelude.{◌≤◌, length}
use Rattle.analysis.specs.declared.Analysis.TheInside.{Inside}
use Rattle.analysis.specs.Views.{AnalysisView}
use Rattle.analysis.specs.Marking.{Noted}

abbrev pub analysis_view : Inside → AnalysisView
analysis_view a = record { seen = a.seen.now; touched = a.touched.now; count = a.count; buffer = a.buffer.now; size = a.size }

pub record IsNoted (a : Inside) : Type 0 where
  pub noted : Noted (length a.seen.now) a.seen.now a.touched.now a.count
  pub room : a.size ≤ length a.buffer.now

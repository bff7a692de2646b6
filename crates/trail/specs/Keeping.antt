-- What a trail shows and keeps.
use Rattle.std.specs.Prelude.{◌≡◌, ◌<◌, ◌≤◌, slice_index}
use Rattle.trail.specs.declared.Trail.TheInside.{Inside}
use Rattle.trail.specs.Views.{TrailView}
use Rattle.trail.specs.Trails.{Good, Rooted}

abbrev pub trail_view : Inside → TrailView
trail_view s = record { problem = s.problem; units = s.units; values = s.values.now; literals = s.literals.now; marks = s.marks.now; len = s.len }

-- it is good, and no decision stands before the root, which is one or the end
pub record IsGood (s : Inside) : Type 0 where
  pub good : Good (trail_view s)
  pub rooted : Rooted s.marks.now s.root
  pub low : s.root ≤ s.len
  pub decided : s.root < s.len → slice_index s.marks.now s.root ≡ 1

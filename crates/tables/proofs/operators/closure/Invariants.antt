use Rattle.std.proofs.Common.{◌*◌}
use Rattle.gates.specs.Circuits.{AddsC}
use Rattle.tables.specs.Tables.{shown, ShowsC}
use Rattle.tables.proofs.Warshall.{via}
use Rattle.tables.proofs.operators.closure.Given as goal

abbrev pub invariant-loop-thing : goal.invariant-loop-thing
invariant-loop-thing l = AddsC l.initial.circuit l.circuit (l.thing * (l.size.things * l.size.things)) × ShowsC l.circuit l.size.things l.table (λ α. via l.thing (shown α l.size.things l.initial.table))

use Rattle.std.proofs.Common.{◌<◌}
use Rattle.propagation.specs.Searching.{Onward}
use Rattle.propagation.proofs.search.Search.visit.Given as goal

abbrev pub invariant-loop : goal.invariant-loop
invariant-loop l = record {
  node : l.node < 4294967296;
  onward : Onward l.initial.self l.self;
}

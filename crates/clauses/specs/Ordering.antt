-- What a store in order keeps, and what it shows.
use Rattle.std.specs.Prelude.{length}
use Rattle.clauses.specs.declared.ordered.OrderedStore.TheInside.{Inside}
use Rattle.clauses.specs.Views.{StoreView}
use Rattle.clauses.specs.Stores.{InOrder}

abbrev pub ordered_view : Inside → StoreView
ordered_view s = s.store

abbrev pub IsOrdered : Inside → Type 0
IsOrdered s = InOrder s.store.spans.now (length s.store.formula)

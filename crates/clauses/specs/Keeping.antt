-- What clauses and stores keep, and what they show.
use Rattle.std.specs.Prelude.{◌≡◌, false, length}
use Rattle.clauses.specs.declared.list.Clauses.TheInside.{Inside as ListInside}
use Rattle.clauses.specs.declared.store.Store.TheInside.{Inside}
use Rattle.clauses.specs.Views.{ClausesView, StoreView}
use Rattle.clauses.specs.Stores.{formula, Stored, InOrder}

abbrev pub list_view : ListInside → ClausesView
list_view s = record { variables = s.variables; formula = formula s.spans.now s.words.now s.count }

abbrev pub IsList : ListInside → Type 0
IsList s = Stored s.variables s.spans.now s.words.now s.count (length s.words.now)

abbrev pub store_view : Inside → StoreView
store_view s = record { variables = s.variables; formula = formula s.spans.now s.words.now s.count; used = s.used; spans = s.spans; words = s.words }

-- clauses that did not stand in the memory before are in order
pub record IsStored (s : Inside) : Type 0 where
  pub stored : Stored s.variables s.spans.now s.words.now s.count s.used
  pub in_order : s.taken ≡ false → InOrder s.spans.now s.count

-- What the order of decisions keeps.
use Rattle.std.specs.Prelude.{◌≡◌, ℕ, ◌^◌, ◌<◌, ◌≤◌, length, slice_index}
use Rattle.order.specs.declared.heap.Order.TheInside.{Inside}
use Rattle.order.specs.Queues.{Queue}
use Rattle.order.specs.Scores.{Score}

abbrev pub queue_of : Inside → Queue
queue_of o = record { variables = length o.scores.now; count = o.count; top = slice_index o.heap.now 0; scores_name = o.scores.ghost_name; heap_name = o.heap.ghost_name; places_name = o.places.ghost_name }

-- a heap of some of the variables: what stands in it are variables, and each variable has an activity and a place
pub record Ordered (o : Inside) : Type 0 where
  pub few : length o.scores.now < 2 ^ 31
  pub heap_long : length o.heap.now ≡ length o.scores.now
  pub places_long : length o.places.now ≡ length o.scores.now
  pub counted : o.count ≤ length o.scores.now
  pub known : (k : ℕ) → k < o.count → slice_index o.heap.now k < length o.scores.now
  pub placed : (v : ℕ) → slice_index o.places.now v ≤ length o.scores.now
  pub scored : (v : ℕ) → Score (slice_index o.scores.now v)
  pub stepped : Score o.step

use Rattle.clauses.proofs.Retaining.{Keeping}
use Rattle.clauses.proofs.store.Store.retain.Given as goal

abbrev pub invariant-loop-number : goal.invariant-loop-number
invariant-loop-number g l = record {
  keeping : Keeping g.F.FnMut l.initial.wants l.fn.self.variables l.initial.spans l.initial.words l.number-end l.fn.self.used l.spans l.words l.number l.kept l.written l.wants;
  callable : goal.F-IsAlwaysCallable g l.wants;
}

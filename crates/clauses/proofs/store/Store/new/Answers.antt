use Rattle.std.proofs.Common.{refl}
use Rattle.clauses.specs.Stores.{formula}
use Rattle.clauses.proofs.store.Store.new.Goals as goal

pub returns-clause-formula : goal.returns-clause-formula
unfolding formula
returns-clause-formula c = refl

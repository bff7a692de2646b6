use Rattle.std.proofs.Common.{ℕ, ◌/◌, ◌<◌, length, ap, sym, subst, rules, arith}
use Rattle.std.proofs.lemmas.Iterator.{YieldsList-from_slice}
use Rattle.std.proofs.lemmas.Iterator.Adapters.{serves_from_places}
use Rattle.std.proofs.lemmas.List.{get_or_read}
use Rattle.analysis.specs.Views.{AnalysisView}
use Rattle.propagation.specs.Views.{variables_of}
use Rattle.analysis.proofs.Analysis.covers.Goals as goal

pub all-requires-clause-callable : goal.all-requires-clause-callable
all-requires-clause-callable c =
    serves_from_places (YieldsList-from_slice c.args.clause.now (cc)) (λ x q r. search rules)
    (λ x k h e.
    let small : x.now / 2 < variables_of c.args.search.now = subst (λ (l : ℕ). l / 2 < variables_of c.args.search.now) (sym (get_or_read c.args.clause.now k x.now h e 0)) (c.requires.known k h) in
    let within : x.now / 2 < length c.self.inside.seen.now = omega (arith, small, c.requires.fits, ap (λ (a : AnalysisView). length a.seen) c.self.view_is) in
    search (rules, arith))

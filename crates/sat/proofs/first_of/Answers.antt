use Rattle.std.proofs.Common.{◌++◌, length, append-nil, ap, ◌∙◌, subst, rules, arith}
use Rattle.clauses.specs.Stores.{Parsed}
use Rattle.descent.specs.Firsts.{FirstSays}
use Rattle.sat.proofs.Answering.{first_ok}
use Rattle.sat.proofs.first_of.Goals as goal

pub returns-then-is_some : goal.returns-then-is_some
returns-then-is_some c =
    let p : Parsed (length c.args.values.now) c.args.spans.now c.args.words.now c.in_ok-problem.problem = search rules in
    first_ok _ _ _ _ c.args.low c.args.high _ _ _ c.first_stored-found.result p.clauses
    (record { spans_room = omega arith; words_room = omega arith; small = omega arith; enough = omega (arith, p.long) })
    (subst (λ f. FirstSays f c.args.low c.args.high c.args.values.now c.first_stored-found.new.values c.first_stored-found.result) (ap (λ u. c.in_ok-problem.problem.formula ++ u) c.new-units.ensures.formula ∙ append-nil _ ∙ p.formula) c.first_stored-found.ensures.says)

pub returns-else-is_some : goal.returns-else-is_some
returns-else-is_some c =
    let p : Parsed (length c.args.values.now) c.args.spans.now c.args.words.now c.in_ok-problem.problem = search rules in
    first_ok _ _ _ _ c.args.low c.args.high _ _ _ c.first_stored-found.result p.clauses
    (record { spans_room = omega arith; words_room = omega arith; small = omega arith; enough = omega (arith, p.long) })
    (subst (λ f. FirstSays f c.args.low c.args.high c.args.values.now c.first_stored-found.new.values c.first_stored-found.result) (ap (λ u. c.in_ok-problem.problem.formula ++ u) c.new-units.ensures.formula ∙ append-nil _ ∙ p.formula) c.first_stored-found.ensures.says)

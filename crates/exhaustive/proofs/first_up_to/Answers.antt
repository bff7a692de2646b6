use Rattle.std.proofs.Common.{◌+◌, None, rules, tests}
use Rattle.exhaustive.specs.Trying.{FirstOf, Reached}
use Rattle.exhaustive.proofs.Ranges.{first_in_range}
use Rattle.exhaustive.proofs.Passing.{found_up_to}
use Rattle.exhaustive.proofs.first_up_to.Goals as goal

pub returns : goal.returns
returns c =
    found_up_to c.args.description.now c.args.most.relations c.args.most.size.things c.find_map.result
    (first_in_range (c.args.most.size.things + 1) (λ k. FirstOf c.args.description.now c.args.most.relations k None) (λ k p. Reached c.args.description.now c.args.most.relations k p) (λ a r f' e. search (rules, tests)) (λ x lt e. search (rules, tests)) (λ x y lt e. search (rules, tests)) _ c.find_map.ensures.runs)

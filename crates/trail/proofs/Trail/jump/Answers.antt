use Rattle.std.proofs.Common.{◌≡◌, ℕ, ◌/◌, ap, ◌∙◌, arith, get_or}
use Rattle.clauses.proofs.Literals.{negation_half}
use Rattle.trail.proofs.Steps.{falls_turned}
use Rattle.trail.proofs.Trail.jump.Goals as goal

module _ (c : goal.After-put-arg-1) where
  half : c.negated-literal.result / 2 ≡ get_or c.args.self.now.literals c.args.place 0 / 2
  half = ap (λ (x : ℕ). x / 2) c.negated-literal.ensures ∙ negation_half c.literal.result ∙ ap (λ (x : ℕ). x / 2) c.literal.ensures.is

pub put-requires-clause-known : goal.put-requires-clause-known
put-requires-clause-known c = omega (arith, ap (λ p. p.variables) c.pop_to.ensures.clauses.problem, ap (λ (x : ℕ). x / 2) c.negated-literal.ensures ∙ negation_half c.literal.result, c.literal.ensures.known)

pub put-requires-clause-free : goal.put-requires-clause-free
put-requires-clause-free c = ap (λ (x : ℕ). get_or c.pop_to.new.self.values x 0) (half c) ∙ c.pop_to.ensures.freed c.args.place c.requires.order c.requires.within

pub returns-clause-less : goal.returns-clause-less
returns-clause-less c = falls_turned c.args.self.now c.pop_to.new.self _ _ c.args.decision c.keeps.ensures c.pop_to.ensures.literals c.pop_to.ensures.marks c.pop_to.ensures.len c.pop_to.ensures.clauses (omega (arith, c.requires.order, c.requires.within)) c.put.ensures.put c.requires.decided

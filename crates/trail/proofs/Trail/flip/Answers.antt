use Rattle.std.proofs.Common.{◌≡◌, ℕ, ◌-◌, ◌/◌, ap, ◌∙◌, arith, get_or, sym, List, rules}
use Rattle.clauses.specs.Formulas.{value}
use Rattle.clauses.proofs.Literals.{negation_half}
use Rattle.trail.proofs.Steps.{falls_turned, turned_popped, same_on}
use Rattle.trail.proofs.Trail.flip.Goals as goal

module _ (c : goal.After-negated) where
  half : c.negated.result / 2 ≡ c.pop-literal.result / 2
  half = ap (λ (x : ℕ). x / 2) c.negated.ensures ∙ negation_half c.pop-literal.result

pub put-requires-clause-known : goal.put-requires-clause-known
put-requires-clause-known c = omega (arith, ap (λ p. p.variables) c.pop-literal.ensures.popped.clauses.problem, half c, c.pop-literal.ensures.known)

pub put-requires-clause-free : goal.put-requires-clause-free
put-requires-clause-free c = ap (λ (x : ℕ). get_or c.pop-literal.new.self.values x 0) (half c) ∙ c.pop-literal.ensures.free

pub put-requires-clause-implied : goal.put-requires-clause-implied
put-requires-clause-implied c α m d _ = ap (value α) c.negated.ensures ∙ turned_popped _ _ _ c.pop-literal.ensures.popped c.loop-self.invariant.jammed α m d

pub returns-then-decided-clause-less : goal.returns-then-decided-clause-less
returns-then-decided-clause-less c =
    let i = c.loop-self.invariant in
    let decided : get_or c.loop-self.self.marks (c.loop-self.self.len - 1) 0 ≡ 1 = search rules in
    let p = c.pop-literal.ensures.popped in
    falls_turned c.args.self.now c.pop-literal.new.self _ _ (c.loop-self.self.len - 1) c.keeps.ensures (p.literals ∙ i.literals) (p.marks ∙ i.marks) (omega (arith, p.len)) (same_on _ _ _ i.clauses p.clauses) (omega (arith, p.len, i.low)) c.put.ensures.put
    (sym (ap (λ (xs : List ℕ). get_or xs (c.loop-self.self.len - 1) 0) i.marks) ∙ decided)

use Rattle.std.proofs.Common.{◌≡◌, ℕ, ap, ◌∙◌, ◌-◌, ◌/◌, ◌<◌, get_or, subst, sym, rules, arith}
use Rattle.std.proofs.lemmas.List.{get_or-set_same}
use Rattle.trail.specs.Views.{TrailView, variables_of}
use Rattle.trail.specs.Trails.{Good}
use Rattle.trail.proofs.Steps.{good_popped}
use Rattle.trail.proofs.Trail.pop.Goals as goal

pub invariant_of-self : goal.invariant_of-self
invariant_of-self c = record { good = good_popped c.args.self.now _ (get_or c.self.inside.literals.now (c.self.inside.len - 1) 0) (subst Good c.self.view_is c.self.invariant.good) (search rules); rooted = λ q h. c.self.invariant.rooted q (omega arith); low = omega arith; decided = λ h. let e : c.min-self-inside.result ≡ c.self.inside.root = omega arith in ap (λ (y : ℕ). get_or c.self.inside.marks.now y 0) e ∙ c.self.invariant.decided (omega arith) }

some : (c : goal.After-literal-1) → c.self.inside.len - 1 < c.self.inside.len
some c = let h : 0 < c.self.inside.len = subst (λ (t : TrailView). 0 < t.len) (sym c.self.view_is) c.requires in omega arith

pub returns-clause-known : goal.returns-clause-known
returns-clause-known c = subst (λ (t : TrailView). get_or c.self.inside.literals.now (c.self.inside.len - 1) 0 / 2 < variables_of t) c.self.view_is (c.self.invariant.good.held.known (c.self.inside.len - 1) (some c))

pub returns-clause-free : goal.returns-clause-free
returns-clause-free c = get_or-set_same c.self.inside.values.now _ 0 0 (let k = c.self.invariant.good.held.known (c.self.inside.len - 1) (some c) in omega (arith, k, c.self.invariant.good.held.size))

use Rattle.std.proofs.Common.{ℕ, not, List, sym, refl, ap, ◌∙◌, subst, inl, inr, ⊎_elim, arith}
use mathlib.Core.Bool.{not-not}
use Rattle.trail.specs.Views.{formula_of}
use Rattle.solver.specs.Values.{assignment}
use Rattle.descent.specs.Firsts.{Lowest}
use Rattle.descent.proofs.Settling.{negative}
use Rattle.descent.proofs.first_model.Goals as goal

pub descend-requires-clause-lowest : goal.descend-requires-clause-lowest
descend-requires-clause-lowest c =
    let t = c.solve_under-2.new.self.trail in
    subst (λ (xs : List ℕ). Lowest (formula_of t) (assignment xs) c.args.low) (sym c.hold-2.ensures)
    (⊎_elim
    (λ all. inl (sym (not-not (assignment t.values c.args.low)) ∙ ap not (sym (negative (assignment t.values) c.args.low) ∙ all 0 (omega arith))))
    (λ none. inr none)
    (c.if-not-solve_under-2.ensures.wished refl))

use Rattle.std.proofs.Common.{inl, inr, arith}
use Rattle.std.proofs.lemmas.Bool.{cases_eq}
use Rattle.leaders.proofs.Leading.{leads_on, leads_for}
use Rattle.leaders.proofs.lead_with.Goals as goal

pub loop-one-preserved : goal.loop-one-preserved
loop-one-preserved c =
    leads_on _ _ _ _ _ _ _ _ _ _ _ _ c.loop-one.invariant c.lead_by-all.ensures
    (λ a b ab bm pair. elim (cases_eq a c.loop-one.one) [ inl e ↦ inr (e, pair.0) | inr e ↦ inl (pair.0, (pair.1.0, omega (arith, pair.1.1, e))) ])

pub returns : goal.returns
returns c = leads_for _ _ _ _ _ _ _ _ _ c.loop-one.invariant (λ a b ab bm pair. (pair.0, (pair.1.0, omega (arith, pair.1.1))))

use Rattle.std.proofs.Common.{inl, inr, arith}
use Rattle.std.proofs.lemmas.Bool.{cases_eq}
use Rattle.leaders.proofs.Leading.{leads_on, leads_for}
use Rattle.leaders.proofs.lead_adjacent.Goals as goal

pub loop-other-preserved : goal.loop-other-preserved
loop-other-preserved c =
    leads_on _ _ _ _ _ _ _ _ _ _ _ _ c.loop-other.invariant c.lead_with-all.ensures
    (λ a b ab bm pair. elim (cases_eq b c.loop-other.other) [ inl e ↦ inr (e, (omega (arith, pair.0, e), omega (arith, pair.0, e))) | inr e ↦ inl (pair.0, omega (arith, pair.1, e)) ])

pub returns : goal.returns
returns c = leads_for _ _ _ _ _ _ _ _ _ c.loop-other.invariant (λ a b ab bm pair. (pair, omega arith))

use Rattle.std.proofs.Common.{◌∙◌, inl, inr}
use Rattle.gates.proofs.Literals.{fold_true, fold_px, fold_py, fold_x, fold_y, fold_xy, fold_to_y, fold_alike, fold_to_x}
use Rattle.gates.proofs.folding.Inputs.folded.Goals as goal
use Rattle.gates.proofs.folding.Inputs.folded.Goals.{then-x-eq-NEVER-via-then-x-eq-NEVER, then-x-eq-NEVER-via-else-x-eq-NEVER+then-y-eq-NEVER, then-x-eq-NEVER-via-else-x-eq-NEVER+else-y-eq-NEVER+then-x-negated}

pub returns-then-p-eq-ALWAYS : goal.returns-then-p-eq-ALWAYS
returns-then-p-eq-ALWAYS c = elim c.then-p-eq-ALWAYS.either [ inl e ↦ fold_true _ _ _ e | inr (inl e) ↦ fold_px _ _ _ e.1 | inr (inr e) ↦ fold_py _ _ _ e.2 ]

pub returns-then-x-eq-NEVER : goal.returns-then-x-eq-NEVER
returns-then-x-eq-NEVER c =
    elim c.then-x-eq-NEVER.branch [ then-x-eq-NEVER-via-then-x-eq-NEVER w ↦ fold_x _ _ _ w.if-x-eq-NEVER.true | then-x-eq-NEVER-via-else-x-eq-NEVER+then-y-eq-NEVER w ↦ fold_y _ _ _ w.if-y-eq-NEVER.true | then-x-eq-NEVER-via-else-x-eq-NEVER+else-y-eq-NEVER+then-x-negated w ↦ fold_xy _ _ _ (w.if-x-negated.true ∙ w.negated.ensures) ]

pub returns-then-x-eq-ALWAYS : goal.returns-then-x-eq-ALWAYS
returns-then-x-eq-ALWAYS c = elim c.then-x-eq-ALWAYS.either [ inl e ↦ fold_to_y _ _ _ c.if-p-eq-NEVER.true e | inr e ↦ fold_alike _ _ _ c.if-p-eq-NEVER.true e.1 ]

pub returns-then-y-eq-ALWAYS : goal.returns-then-y-eq-ALWAYS
returns-then-y-eq-ALWAYS c = fold_to_x _ _ _ c.if-p-eq-NEVER.true c.if-y-eq-ALWAYS.true

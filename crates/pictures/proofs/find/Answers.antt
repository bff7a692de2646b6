use Rattle.std.proofs.Common.{◌≡◌, ℕ, ◌<◌, ◌≤◌, length, Err, subst, inl, inr, rules, tests, arith}
use Rattle.descriptions.specs.Reading.{Outlines}
use Rattle.pictures.specs.Promise.{Found, floor_of}
use Rattle.pictures.proofs.Answering.{answer_no_outline, outlined, answer_few, answer_out_full, answer_none, answer_first}
use Rattle.pictures.proofs.find.Goals as goal
use Rattle.pictures.proofs.find.Goals.{In_ok-outline, Else-work-floor}

known : (c : In_ok-outline) → Outlines c.args.description.now c.in_ok-outline.outline
known c = outlined _ c.outline_of.result _ c.outline_of.ensures c.in_ok-outline.ensures.ok_part

-- the words that were lent are enough
room : (c : Else-work-floor) → floor_of (length c.args.description.now) c.args.most c.in_ok-outline.outline.depth ≤ length c.args.work.now
room c = subst (λ (x : ℕ). x ≤ length c.args.work.now) c.floor.ensures c.if-work-floor.false

pub returns-in_err-outline : goal.returns-in_err-outline
returns-in_err-outline c =
    let d : ◌≡◌ {A = Found} c.from_residual.result (Err c.in_err-outline.field-0.0) = search (rules, tests) in
    answer_no_outline _ _ _ _ c.outline_of.result c.in_err-outline.field-0.0 _ c.outline_of.ensures c.in_err-outline.ensures.value d

pub returns-then-most-gt-MOST_THINGS : goal.returns-then-most-gt-MOST_THINGS
returns-then-most-gt-MOST_THINGS c =
    let d = (goal.at.returns-then-most-gt-MOST_THINGS c).In_ok-outline in
    answer_few _ _ _ _ _ (known d) (inl c.if-most-gt-MOST_THINGS.true)

pub returns-then-work-floor : goal.returns-then-work-floor
returns-then-work-floor c =
    let d = (goal.at.returns-then-work-floor c).In_ok-outline in
    answer_few _ _ _ _ _ (known d) (inr (subst (λ (x : ℕ). length c.args.work.now < x) c.floor.ensures c.if-work-floor.true))

pub returns-then-out-bits : goal.returns-then-out-bits
returns-then-out-bits c =
    let d = (goal.at.returns-then-out-bits c).In_ok-outline in
    let e = (goal.at.returns-then-out-bits c).Else-work-floor in
    answer_out_full _ _ _ _ _ (known d) c.if-most-gt-MOST_THINGS.false (room e) (omega (arith, c.bits.ensures.0))

pub returns-in_default : goal.returns-in_default
returns-in_default c =
    let d = (goal.at.returns-in_default c).In_ok-outline in
    let e = (goal.at.returns-in_default c).Else-work-floor in
    answer_none _ _ _ _ _ (known d) c.if-most-gt-MOST_THINGS.false (room e) (omega (arith, c.bits.ensures.0)) c.in_default.ensures

pub returns : goal.returns
returns c =
    let d = (goal.at.returns c).In_ok-outline in
    let e = (goal.at.returns c).Else-work-floor in
    answer_first _ _ _ _ _ (known d) c.if-most-gt-MOST_THINGS.false (room e) (omega (arith, c.bits.ensures.0)) c.in-Some.picture _ c.in-Some.ensures c.unpack.ensures

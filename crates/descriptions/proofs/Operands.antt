-- Where parts end, from where their operands do.
use Rattle.std.proofs.Common.{◌≡◌, ℕ, ◌+◌, ◌<◌, ◌≤◌, max, List, Some, None, Option, true, false, ltb, refl, ap, ◌∙◌, arith}
use Rattle.std.proofs.lemmas.Bool.{ltb-true, ltb-false}
use Rattle.std.specs.Bool.{then_some}
use Rattle.descriptions.specs.declared.Unary.{Unary}
use Rattle.descriptions.specs.declared.Binary.{Binary}
use Rattle.descriptions.specs.declared.heads.ExpressionHead.{ExpressionHead}
use Rattle.descriptions.specs.declared.heads.ExpressionHead.TheVariants as head
use Rattle.descriptions.specs.declared.heads.SentenceHead.{SentenceHead}
use Rattle.descriptions.specs.declared.heads.SentenceHead.TheVariants.{Within, Nonempty, Not, Both, ForEvery}
use Rattle.descriptions.specs.declared.extents.Scope.{Scope}
use Rattle.descriptions.specs.declared.extents.Written.{Written}
use Rattle.descriptions.specs.Bytes.{depth}
use Rattle.descriptions.specs.Heads.{HeadE, HeadS}
use Rattle.descriptions.specs.Reading.{ExtentE, ExtentsE, ExtentS}
use Rattle.descriptions.proofs.Unique.{unique_e, unique_s}
use Rattle.descriptions.proofs.Parts.{operator_read, operator_stands, operator_absent, pair_stands, pair_absent, pair_half}
use Rattle.descriptions.proofs.Operators.{unary_operator, binary_operator, within_operator, nonempty_operator, negation_operator, both_operator, for_every_operator, named_stands, named_absent, thing_stands, thing_absent, begins_unary, begins_binary, begins}
use Rattle.descriptions.proofs.Depths.{depth_fine}

module _ (c : Scope) (s : List ℕ) (at : ℕ) where
  -- two expressions, one after the other
  pub no_first : ExtentE c s at None → ExtentsE c s at None
  no_first x = pair_absent _ _ s at _ _ (λ a b n. n) x

  pub second : (one : Written ℕ) (r : Option (Written ℕ)) → ExtentE c s at (Some one) → ExtentE c s one.end r → ExtentsE c s at r
  second one None x y = pair_half _ _ s at unique_e one.end _ _ _ (λ a b p n. n) x y
  second one (Some other) x y = pair_stands _ _ s at one.end other.end _ _ _ (λ a b p q. q) x y

  module _ (h : ExpressionHead) (read : HeadE s at (Some h)) where
    pub named_extent : (i : ℕ) → h ≡ head.Named i → ExtentE c s at (then_some (ltb i c.relations) (record { value = 0; end = at + 2 }))
    named_extent i e = elim (ltb i c.relations) as (λ b. ltb i c.relations ≡ b → ExtentE c s at (then_some b (record { value = 0; end = at + 2 }))) [ true ↦ λ q. named_stands _ _ s at h read i _ e (ltb-true i c.relations q) refl | false ↦ λ q. named_absent _ _ s at h read i _ e (ltb-false i c.relations q) ] refl

    pub thing_extent : (i : ℕ) → h ≡ head.Thing i → ExtentE c s at (then_some (ltb i c.spoken) (record { value = 0; end = at + 2 }))
    thing_extent i e = elim (ltb i c.spoken) as (λ b. ltb i c.spoken ≡ b → ExtentE c s at (then_some b (record { value = 0; end = at + 2 }))) [ true ↦ λ q. thing_stands _ _ s at h read i _ e (ltb-true i c.spoken q) refl | false ↦ λ q. thing_absent _ _ s at h read i _ e (ltb-false i c.spoken q) ] refl

    pub unary_extent : (r : Option (Written ℕ)) (o : Unary) → h ≡ head.Unary o → ExtentE c s (at + 1) r → ExtentE c s at r
    unary_extent r o e x = operator_read _ _ _ _ _ s at (begins_unary s at h o e read) (unary_operator _ _ o) _ _ _ _ _ (λ a y p. p) (λ a n. n) r x

    pub binary_extent : (r : Option (Written ℕ)) (o : Binary) → h ≡ head.Binary o → ExtentsE c s (at + 1) r → ExtentE c s at r
    binary_extent r o e x = operator_read _ _ _ _ _ s at (begins_binary s at h o e read) (binary_operator _ _ o) _ _ _ _ _ (λ a y p. p) (λ a n. n) r x

  module _ (h : SentenceHead) (read : HeadS s at (Some h)) where
    pub within_extent : (r : Option (Written ℕ)) → h ≡ Within → ExtentsE c s (at + 1) r → ExtentS c s at r
    within_extent r e x = operator_read _ _ _ _ _ s at (begins s at h Within e read) (within_operator _ _) _ _ _ _ _ (λ a y p. p) (λ a n. n) r x

    pub nonempty_extent : (r : Option (Written ℕ)) → h ≡ Nonempty → ExtentE c s (at + 1) r → ExtentS c s at r
    nonempty_extent r e x = operator_read _ _ _ _ _ s at (begins s at h Nonempty e read) (nonempty_operator _ _) _ _ _ _ _ (λ a y p. p) (λ a n. n) r x

    pub not_extent : (r : Option (Written ℕ)) → h ≡ Not → ExtentS c s (at + 1) r → ExtentS c s at r
    not_extent r e x = operator_read _ _ _ _ _ s at (begins s at h Not e read) (negation_operator _ _) _ _ _ _ _ (λ a y p. p) (λ a n. n) r x

    pub both_first : h ≡ Both → ExtentS c s (at + 1) None → ExtentS c s at None
    both_first e x = operator_absent _ _ _ _ _ s at (begins s at h Both e read) (both_operator _ _) _ _ (λ a n. n) (pair_absent _ _ s (at + 1) _ _ (λ a b n. n) x)

    pub both_second : (one : Written ℕ) → h ≡ Both → ExtentS c s (at + 1) (Some one) → ExtentS c s one.end None → ExtentS c s at None
    both_second one e x y = operator_absent _ _ _ _ _ s at (begins s at h Both e read) (both_operator _ _) _ _ (λ a n. n) (pair_half _ _ s (at + 1) unique_s one.end _ _ _ (λ a b p n. n) x y)

    pub both_extent : (one other : Written ℕ) (d : ℕ) → d ≡ max one.value other.value → h ≡ Both → ExtentS c s (at + 1) (Some one) → ExtentS c s one.end (Some other) → ExtentS c s at (Some (record { value = d; end = other.end }))
    both_extent one other d f e x y =
        operator_stands _ _ _ _ _ s at (begins s at h Both e read) (both_operator _ _) other.end (λ a. d ≡ max (depth a.0) (depth a.1)) _ (λ a p. p)
        (pair_stands _ _ s (at + 1) one.end other.end _ _ _ (λ a b p q. let g : one.value ≡ depth a = p in let k : other.value ≡ depth b = q in f ∙ rw (g, k) refl) x y)

    abbrev inner : Scope
    inner = record { relations = c.relations; spoken = c.spoken + 1 }

    pub no_body : h ≡ ForEvery → c.spoken < 4 → ExtentS inner s (at + 1) None → ExtentS c s at None
    no_body e lt x = operator_absent _ _ _ _ _ s at (begins s at h ForEvery e read) (for_every_operator _ _ lt) _ _ (λ a n. n) x

    pub body_extent : (body : Written ℕ) → h ≡ ForEvery → c.spoken < 4 → ExtentS inner s (at + 1) (Some body) → ExtentS c s at (Some (record { value = body.value + 1; end = body.end }))
    body_extent body e lt x = operator_stands _ _ _ _ _ s at (begins s at h ForEvery e read) (for_every_operator _ _ lt) body.end _ _ (λ a p. ap (λ (y : ℕ). y + 1) p) x

-- a depth is small
pub depth_small : (c : Scope) (s : List ℕ) (at : ℕ) (x : Written ℕ) → ExtentS c s at (Some x) → x.value ≤ 4
depth_small c s at x f = let d = depth_fine c.relations c.spoken f.part f.is_fine in omega (arith, f.says)

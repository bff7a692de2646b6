-- Claims that are added.
use Rattle.std.proofs.Common.{◌≡◌, ℕ, ◌+◌, ◌*◌, ◌<◌, true, List, get_or, sym, refl, ◌∙◌, subst, inl, inr, arith, below_more}
use Rattle.std.proofs.lemmas.Bool.{or_cases, or_left}
use Rattle.clauses.specs.Formulas.{Assignment, value}
use Rattle.gates.specs.declared.circuit.Circuit.{Circuit}
use Rattle.gates.specs.Words.{either, output, claimed, Meets}
use Rattle.gates.specs.Circuits.{GoesC, MeetsC, GrewC, Claims}
use Rattle.gates.proofs.Triples.{Put}

claimed_kept : (t t' : List ℕ) (k : ℕ) (α : Assignment) → ((i : ℕ) → i < 3 * k + 3 → get_or t' i 0 ≡ get_or t i 0) → claimed t' k α ≡ claimed t k α
unfolding claimed
claimed_kept t t' k α h =
    let a = h (3 * k) (omega arith) in
    let b = h (3 * k + 1) (omega arith) in
    let c = h (3 * k + 2) (omega arith) in
    rw (a, b, c) refl

module _ (t : List ℕ) (c p x y : ℕ) (t' : List ℕ) (w : Put t c p x y t') where
  new_claim : (α : Assignment) → claimed t' c α ≡ either α p x y
  unfolding claimed
  new_claim α = let e = w.at_p in let e' = w.at_x in let e'' = w.at_y in rw (e, e', e'') refl

  old_claim : (α : Assignment) (k : ℕ) → k < c → claimed t' k α ≡ claimed t k α
  old_claim α k h = claimed_kept t t' k α (λ i l. w.kept i (omega arith))

  pub meets_more : (α : Assignment) → Meets t c α → either α p x y ≡ true → Meets t' (c + 1) α
  meets_more α m e = below_more _ _ (λ k h. old_claim α k h ∙ m k h) (new_claim α ∙ e)

  pub meets_fewer : (α : Assignment) → Meets t' (c + 1) α → Meets t c α × (either α p x y ≡ true)
  meets_fewer α m = ((λ k h. sym (old_claim α k h) ∙ m k (omega arith)), sym (new_claim α) ∙ m c (omega arith))

-- a claim of one literal
pub same_three : (α : Assignment) (l : ℕ) → either α l l l ≡ true → value α l ≡ true
same_three α l e = elim (or_cases (value α l) _ e) [ inl h ↦ h | inr h ↦ elim (or_cases (value α l) (value α l) h) [ inl k ↦ k | inr k ↦ k ] ]

pub three_same : (α : Assignment) (l : ℕ) → value α l ≡ true → either α l l l ≡ true
three_same α l h = or_left (value α l) _ h

-- a claim more, and the gates are the same; a gate more, and the claims are
module _ (s : Circuit) (a b c : ℕ) (t : Circuit) (claims : Claims s a b c t) (α : Assignment) where
  pub goes_unclaimed : GoesC t α → GoesC s α
  goes_unclaimed o = record { top = o.top; gates = λ k h. subst (λ (z : ℕ). α (z + k) ≡ output s.words.now k α) claims.base (subst (λ (g : List ℕ). α (t.base + k) ≡ output g k α) claims.words (o.gates k (omega (arith, claims.count)))) }

  pub goes_claimed : GoesC s α → GoesC t α
  goes_claimed o = record { top = o.top; gates = λ k h. subst (λ (z : ℕ). α (z + k) ≡ output t.words.now k α) (sym claims.base) (subst (λ (g : List ℕ). α (s.base + k) ≡ output g k α) (sym claims.words) (o.gates k (omega (arith, claims.count)))) }

module _ (c d : Circuit) (grew : GrewC c d) (α : Assignment) where
  pub meets_back : MeetsC d α → MeetsC c α
  meets_back m k h = subst (λ (t : List ℕ). claimed t k α ≡ true) grew.claims (m k (omega (arith, grew.claims_count)))

  pub meets_still : MeetsC c α → MeetsC d α
  meets_still m k h = subst (λ (t : List ℕ). claimed t k α ≡ true) (sym grew.claims) (m k (omega (arith, grew.claims_count)))

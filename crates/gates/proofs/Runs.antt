-- What each choice of the inputs extends to.
use Rattle.std.proofs.Common.{◌≡◌, ℕ, zero, suc, ◌+◌, ◌*◌, ◌/◌, ◌<◌, ◌≤◌, true, cond, eqb, ◌⊎◌, List, get_or, sym, refl, ap, ◌∙◌, inl, inr, arith}
use Rattle.std.proofs.lemmas.Bool.{cases_lt, eq-eqb, ne_eqb}
use Rattle.clauses.specs.Formulas.{Assignment, value}
use Rattle.gates.specs.Words.{output, Goes}
use Rattle.gates.proofs.Gates.{Before, inputs_before}
use Rattle.gates.specs.Views.{CircuitView, view, GoesV, SoundV}
use Rattle.gates.specs.Theorems.{Extends, Determined}

-- the inputs, and then gate by gate
run : ℕ → List ℕ → ℕ → Assignment → Assignment
run base g zero α v = α v
run base g (suc n) α v = cond (eqb v (base + n)) (output g n (run base g n α)) (run base g n α v)

value_alike : (α β : Assignment) (l : ℕ) → α (l / 2) ≡ β (l / 2) → value α l ≡ value β l
unfolding value
value_alike α β l e = rw e refl

output_alike : (base : ℕ) (g : List ℕ) (n k : ℕ) (α β : Assignment) → Before base g n → k < n → ((v : ℕ) → v < base + k → α v ≡ β v) → output g k α ≡ output g k β
unfolding output
output_alike base g n k α β before h e =
    let b = inputs_before base g n k before h in
    let p = value_alike α β (get_or g (3 * k) 0) (e _ (omega (arith, b.0))) in
    let x = value_alike α β (get_or g (3 * k + 1) 0) (e _ (omega (arith, b.1.0))) in
    let y = value_alike α β (get_or g (3 * k + 2) 0) (e _ (omega (arith, b.1.1))) in
    rw (p, x, y) refl

module _ (base : ℕ) (g : List ℕ) where
  run_here : (n : ℕ) (α : Assignment) (v : ℕ) → v ≡ base + n → run base g (suc n) α v ≡ output g n (run base g n α)
  unfolding run
  run_here n α v e = rw (eq-eqb v (base + n) e) refl

  run_else : (n : ℕ) (α : Assignment) (v : ℕ) → (v ≡ base + n → ⊥) → run base g (suc n) α v ≡ run base g n α v
  unfolding run
  run_else n α v e = rw (ne_eqb v (base + n) e) refl

  run_inputs : (n : ℕ) (α : Assignment) (v : ℕ) → v < base → run base g n α v ≡ α v
  unfolding run
  run_inputs zero α v h = refl
  run_inputs (suc n) α v h = run_else n α v (omega arith) ∙ run_inputs n α v h

  run_goes : (n : ℕ) (α : Assignment) → 0 < base → Before base g n → α 0 ≡ true → Goes base g n (run base g n α)
  run_goes zero α some before t = record { top = run_inputs zero α 0 some ∙ t; gates = λ k h. absurd (omega arith) }
  run_goes (suc n) α some before t =
      record { top = run_inputs (suc n) α 0 some ∙ t; gates = λ k h. go (run_goes n α some (λ i j l. before i j (omega arith)) t) k h (cases_lt k n) }
    where
      go : Goes base g n (run base g n α) → (k : ℕ) → k < suc n → (k < n) ⊎ (n ≤ k) → run base g (suc n) α (base + k) ≡ output g k (run base g (suc n) α)
      go ih k h (inl l) = run_else n α (base + k) (omega arith) ∙ ih.gates k l ∙ sym (output_alike base g (suc n) k (run base g (suc n) α) (run base g n α) before h (λ v b. run_else n α v (omega arith)))
      go ih k h (inr l) =
          let e : k ≡ n = omega arith in
          run_here n α (base + k) (ap (λ (z : ℕ). base + z) e)
          ∙ sym (ap (λ (z : ℕ). output g z (run base g (suc n) α)) e ∙ output_alike base g (suc n) n (run base g (suc n) α) (run base g n α) before (omega arith) (λ v b. run_else n α v (omega arith)))

  -- two that agree on the inputs agree on the gates
  agree : (n : ℕ) (α β : Assignment) → Before base g n → Goes base g n α → Goes base g n β → ((v : ℕ) → v < base → α v ≡ β v) → (v : ℕ) → v < base + n → α v ≡ β v
  agree zero α β before o p e v h = e v (omega arith)
  agree (suc n) α β before o p e v h =
      go (agree n α β (λ i j l. before i j (omega arith)) (record { top = o.top; gates = λ k l. o.gates k (omega arith) }) (record { top = p.top; gates = λ k l. p.gates k (omega arith) }) e) (cases_lt v (base + n))
    where
      go : ((w : ℕ) → w < base + n → α w ≡ β w) → (v < base + n) ⊎ (base + n ≤ v) → α v ≡ β v
      go ih (inl l) = ih v l
      go ih (inr l) =
          let q : v ≡ base + n = omega arith in
          ap α q ∙ o.gates n (omega arith) ∙ output_alike base g (suc n) n α β before (omega arith) ih ∙ sym (p.gates n (omega arith)) ∙ ap β (sym q)

pub extends_sound : (c : CircuitView) (α : Assignment) → SoundV c → α 0 ≡ true → (β : Assignment) × GoesV c β × ((v : ℕ) → v < c.base → β v ≡ α v)
extends_sound c α sound t = (run c.base c.words c.count α, run_goes c.base c.words c.count α sound.some sound.before t, run_inputs c.base c.words c.count α)

pub extends : Extends
extends c α t = extends_sound (view c) α c.sound t

pub determined : Determined
determined c α β o p e v h = agree c.base c.words.now c.count α β c.sound.before o p e v h

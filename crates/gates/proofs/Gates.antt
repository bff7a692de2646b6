-- Gates that are added, and gates that there are.
use Rattle.std.proofs.Common.{◌≡◌, ℕ, ◌+◌, ◌*◌, ◌<◌, Bool, List, get_or, refl, ◌∙◌, subst, add-zero, arith}
use Rattle.clauses.specs.Formulas.{Assignment}
use Rattle.gates.specs.declared.folding.Inputs.{Inputs}
use Rattle.gates.specs.Words.{mix, output, Goes, Grows, Adds, Gives}
use Rattle.gates.specs.Circuits.{Reordered, Stands}
use Rattle.gates.proofs.Literals.{value_even}
use Rattle.gates.proofs.Triples.{Put}

-- what goes with more gates goes with fewer
output_kept : (g g' : List ℕ) (k : ℕ) (α : Assignment) → ((i : ℕ) → i < 3 * k + 3 → get_or g' i 0 ≡ get_or g i 0) → output g' k α ≡ output g k α
unfolding output
output_kept g g' k α h =
    let a = h (3 * k) (omega arith) in
    let b = h (3 * k + 1) (omega arith) in
    let c = h (3 * k + 2) (omega arith) in
    rw (a, b, c) refl

module _ {b : ℕ} {g : List ℕ} {n : ℕ} {t : List ℕ} {c : ℕ} {b' : ℕ} {g' : List ℕ} {n' : ℕ} {t' : List ℕ} {c' : ℕ} where
  pub goes_fewer : Grows b g n t c b' g' n' t' c' → (α : Assignment) → Goes b' g' n' α → Goes b g n α
  goes_fewer r α o = record { top = o.top; gates = λ k h. subst (λ (z : ℕ). α (z + k) ≡ output g' k α) r.same (o.gates k (omega arith)) ∙ output_kept g g' k α (λ i l. r.kept i (omega arith)) }

  pub gives_still : Grows b g n t c b' g' n' t' c' → {l : ℕ} {v : Assignment → Bool} → Gives b g n l v → Gives b' g' n' l v
  gives_still r o = record { low = omega (arith, o.low, r.same, r.more); is = λ α z. o.is α (goes_fewer r α z) }

pub grows_not : {b : ℕ} {g : List ℕ} {n : ℕ} {t : List ℕ} {c : ℕ} → Grows b g n t c b g n t c
grows_not = record { same = refl; more = omega arith; size = refl; kept = λ i h. refl; claims = refl; claims_count = refl }

pub grows_on : {b : ℕ} {g : List ℕ} {n : ℕ} {t : List ℕ} {c : ℕ} {b' : ℕ} {g' : List ℕ} {n' : ℕ} {t' : List ℕ} {c' : ℕ} {b'' : ℕ} {g'' : List ℕ} {n'' : ℕ} {t'' : List ℕ} {c'' : ℕ} → Grows b g n t c b' g' n' t' c' → Grows b' g' n' t' c' b'' g'' n'' t'' c'' → Grows b g n t c b'' g'' n'' t'' c''
grows_on r s = record { same = s.same ∙ r.same; more = omega (arith, r.more, s.more); size = s.size ∙ r.size; kept = λ i h. s.kept i (omega (arith, r.more)) ∙ r.kept i h; claims = s.claims ∙ r.claims; claims_count = s.claims_count ∙ r.claims_count }

pub adds_none : {b : ℕ} {g : List ℕ} {n : ℕ} {t : List ℕ} {c : ℕ} → (most : ℕ) → Adds b g n t c b g n t c most
adds_none most = record { grew = grows_not; few = omega arith }

-- a gate that there is
pub stands_gives : (b : ℕ) (g : List ℕ) (n p x y k : ℕ) → Stands g n p x y k → Gives b g n (2 * (b + k)) (λ α. mix α p x y)
unfolding output
stands_gives b g n p x y k s =
    let e = s.at_p in let e' = s.at_x in let e'' = s.at_y in
    record { low = omega (arith, s.low); is = λ α o. value_even α _ (b + k) refl ∙ o.gates k s.low ∙ rw (e, e', e'') refl }

-- the same gate, written in another way
pub reordered_gives : (b : ℕ) (g : List ℕ) (n p x y l : ℕ) (i : Inputs) → Reordered p x y i → Gives b g n l (λ α. mix α i.p i.x i.y) → Gives b g n l (λ α. mix α p x y)
reordered_gives b g n p x y l i r o = record { low = o.low; is = λ α z. o.is α z ∙ r.is α z.top }

-- one gate more
pub put_gives : (b : ℕ) (g : List ℕ) (n p x y : ℕ) (g' : List ℕ) → Put g n p x y g' → Gives b g' (n + 1) (2 * (b + n)) (λ α. mix α p x y)
put_gives b g n p x y g' w = stands_gives b g' (n + 1) p x y n (record { low = omega arith; at_p = w.at_p; at_x = w.at_x; at_y = w.at_y })

-- a gate looks only at what comes before it
abbrev pub Before : ℕ → List ℕ → ℕ → Type 0
Before base g n = (k j : ℕ) → k < n → j < 3 → get_or g (3 * k + j) 0 < 2 * (base + k)

pub inputs_before : (base : ℕ) (g : List ℕ) (n k : ℕ) → Before base g n → k < n → (get_or g (3 * k) 0 < 2 * (base + k)) × ((get_or g (3 * k + 1) 0 < 2 * (base + k)) × (get_or g (3 * k + 2) 0 < 2 * (base + k)))
inputs_before base g n k before h = (subst (λ (i : ℕ). get_or g i 0 < 2 * (base + k)) (add-zero (3 * k)) (before k 0 h (omega arith)), (before k 1 h (omega arith), before k 2 h (omega arith)))

-- Circuits to which gates and claims are added.
use Rattle.std.proofs.Common.{◌≡◌, ℕ, Bool, List, length, get_or, sym, refl, ap, ◌∙◌, subst, arith}
use Rattle.clauses.specs.Formulas.{Assignment}
use Rattle.gates.specs.declared.circuit.Circuit.{Circuit}
use Rattle.gates.specs.Words.{Meets}
use Rattle.gates.specs.Circuits.{MeetsC, AddsC, GivesC, Claims}
use Rattle.gates.specs.Views.{CircuitView, GoesV}
use Rattle.gates.proofs.Gates.{goes_fewer}
use Rattle.leaders.specs.Leading.{ExtendedV, Extended}

pub extends_none : (s : Circuit) → Extended s s
extends_none s = record { base = refl; more = omega arith; size = refl; kept = λ i h. refl; claims_more = omega arith; claims_size = refl; met = λ α h. h }

pub extends_on : {s t u : CircuitView} → ExtendedV s t → ExtendedV t u → ExtendedV s u
extends_on e f =
    let a = e.more in let b = f.more in let c = e.claims_more in let d = f.claims_more in
    record {
      base = f.base ∙ e.base;
      more = omega arith;
      size = f.size ∙ e.size;
      kept = λ i h. f.kept i (omega arith) ∙ e.kept i h;
      claims_more = omega arith;
      claims_size = f.claims_size ∙ e.claims_size;
      met = λ α h. e.met α (f.met α h);
    }

pub extends_goes : {s t : CircuitView} → ExtendedV s t → (α : Assignment) → GoesV t α → GoesV s α
extends_goes {s} {t} e α g = goes_fewer {t = s.claims} {c = s.claimed} {t' = s.claims} {c' = s.claimed} (record { same = e.base; more = e.more; size = e.size; kept = e.kept; claims = refl; claims_count = refl }) α g

pub extends_gives : (s t : Circuit) → Extended s t → (l : ℕ) (v : Assignment → Bool) → GivesC s l v → GivesC t l v
extends_gives s t e l v g = let a = g.low in let b = e.base in let c = e.more in record { low = omega arith; is = λ α h. g.is α (extends_goes e α h) }

meets_same : (t t' : List ℕ) (c c' : ℕ) (α : Assignment) → t' ≡ t → c' ≡ c → Meets t' c' α → Meets t c α
meets_same t t' c c' α e f h = subst (λ (x : List ℕ). Meets x c α) e (subst (λ (x : ℕ). Meets t' x α) f h)

-- gates are added, and no claim
pub adds_extends : (s t : Circuit) (most : ℕ) → AddsC s t most → Extended s t
adds_extends s t most a =
    let b = a.grew.claims_count in
    record {
      base = a.grew.same;
      more = a.grew.more;
      size = a.grew.size;
      kept = a.grew.kept;
      claims_more = omega arith;
      claims_size = ap length a.grew.claims;
      met = λ α h. meets_same _ _ _ _ α a.grew.claims a.grew.claims_count h;
    }

pub adds_meets : (s t : Circuit) (most : ℕ) → AddsC s t most → (α : Assignment) → MeetsC s α → MeetsC t α
adds_meets s t most a α h = meets_same _ _ _ _ α (sym a.grew.claims) (sym a.grew.claims_count) h

-- a claim is added, and no gate
pub claims_extends : (s t : Circuit) (x y z : ℕ) → Claims s x y z t → Extended s t
claims_extends s t x y z c =
    let b = c.count in let d = c.counts in
    record {
      base = c.base;
      more = omega arith;
      size = ap length c.words;
      kept = λ i h. ap (λ (w : List ℕ). get_or w i 0) c.words;
      claims_more = omega arith;
      claims_size = c.size;
      met = λ α h. (c.met α h).0;
    }

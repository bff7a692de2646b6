-- Chains of several transpositions.
use Rattle.std.proofs.Common.{◌≡◌, ℕ, ◌+◌, ◌-◌, ◌*◌, ◌<◌, ◌≤◌, Bool, true, ◌&&◌, ◌⊎◌, length, inl, inr, arith}
use Rattle.std.proofs.lemmas.Bool.{and_parts, and_cases}
use Rattle.descriptions.specs.Pictures.{Picture}
use Rattle.clauses.specs.Formulas.{Assignment}
use Rattle.gates.specs.declared.circuit.Circuit.{Circuit}
use Rattle.gates.specs.Views.{CircuitView, GoesV, MeetsV}
use Rattle.firsts.specs.Leaders.{led}
use Rattle.leaders.specs.Leading.{Draws, ExtendedV, Chains, CrowdedV, OnePair, LeadsV, Leads}
use Rattle.leaders.proofs.Extending.{extends_on, extends_goes}

module _ (n m gates claims : ℕ) where
  -- no room stays no room
  crowded_still : (s t : CircuitView) → ExtendedV s t → CrowdedV n m gates claims s → CrowdedV n m gates claims t
  crowded_still s t e (inl h) = let a = e.more in inl (omega arith)
  crowded_still s t e (inr (inl h)) = let a = e.claims_more in inr (inl (omega arith))
  crowded_still s t e (inr (inr (inl h))) = let a = e.more in let b = e.size in inr (inr (inl (omega arith)))
  crowded_still s t e (inr (inr (inr h))) = let a = e.claims_more in let b = e.claims_size in inr (inr (inr (omega arith)))

  -- of fewer pairs
  pub leads_for : (P R : ℕ → ℕ → Type 0) (s t : CircuitView) (x : Bool) → LeadsV s n m gates claims P t x → ((a b : ℕ) → a < b → b < m → R a b → P a b) → LeadsV s n m gates claims R t x
  leads_for P R s t x e within = record { extends = e.extends; few = e.few; claims_few = e.claims_few; keeps = e.keeps; leads = λ h α p long goes draws met a b ab bm pair. e.leads h α p long goes draws met a b ab bm (within a b ab bm pair); refused = e.refused }

  -- one after the other
  pub leads_on : (P Q R : ℕ → ℕ → Type 0) (s t u : CircuitView) (x y : Bool) → LeadsV s n m gates claims P t x → LeadsV t n m gates claims Q u y → ((a b : ℕ) → a < b → b < m → R a b → P a b ⊎ Q a b) → LeadsV s n m gates claims R u (x && y)
  leads_on P Q R s t u x y e f either =
      let a = e.few in let b = f.few in let c = e.claims_few in let d = f.claims_few in
      record {
        extends = extends_on e.extends f.extends;
        few = omega arith;
        claims_few = omega arith;
        keeps = λ α p long goes draws leader met. f.keeps α p long goes draws leader (e.keeps α p long (extends_goes f.extends α goes) draws leader met);
        leads = leads;
        refused = λ h. elim (and_cases x y h) [ inl g ↦ crowded_still t u f.extends (e.refused g) | inr g ↦ f.refused g ];
      }
    where
      leads : (x && y) ≡ true → (α : Assignment) (p : Picture) → length p ≡ n * (m * m) → GoesV u α → Draws α p → MeetsV u α → (a b : ℕ) → a < b → b < m → R a b → led n m a b p ≡ true
      leads h α p long goes draws met a b ab bm pair =
          let both = and_parts x y h in
          elim (either a b ab bm pair)
          [ inl g ↦ e.leads both.0 α p long (extends_goes f.extends α goes) draws (f.extends.met α met) a b ab bm g | inr g ↦ f.leads both.1 α p long goes draws met a b ab bm g ]

  -- a chain that stays within the bounds
  pub chain_leads : (s t : Circuit) (one other : ℕ) (whole : Bool) → one < other → other < m → s.count + 2 * (n * (m - 1)) ≤ gates → s.claimed + 2 * (n * (m - 1)) ≤ claims → Chains s n m one other t whole → Leads s n m gates claims (OnePair one other) t whole
  chain_leads s t one other whole two inside hg hc c =
      let x = c.few in let y = c.claims_few in
      record {
        extends = c.extends;
        few = omega arith;
        claims_few = omega arith;
        keeps = λ α p long goes draws leader met. c.keeps α p long goes draws (leader one other two inside) met;
        leads = λ h α p long goes draws met a b ab bm pair. let e = pair.0 in let f = pair.1 in rw (e, f) (c.leads h α p long goes draws met);
        refused = λ h. inr (inr (c.refused h));
      }

-- A chain, link by link.
use Rattle.std.proofs.Common.{◌≡◌, ℕ, suc, ◌+◌, ◌-◌, ◌*◌, ◌^◌, ◌<◌, ◌≤◌, Bool, true, false, not, ◌&&◌, ◌||◌, length, sym, refl, ap, ◌∙◌, subst, add-one, arith}
use Rattle.std.proofs.lemmas.Bool.{true≢false, lt-ltb, le-ltb, and_parts, and_from}
use Rattle.descriptions.specs.Pictures.{Picture}
use Rattle.clauses.specs.Formulas.{Assignment, value}
use Rattle.gates.specs.declared.circuit.Circuit.{Circuit}
use Rattle.gates.specs.Circuits.{GoesC, MeetsC, GivesC}
use Rattle.gates.proofs.Literals.{value_even, value_false}
use Rattle.firsts.specs.Leaders.{source, swap, led}
use Rattle.firsts.specs.Chains.{smaller, clauses, other, looks, links}
use Rattle.firsts.proofs.Chaining.{drawn_led, drawn_part}
use Rattle.firsts.proofs.Links.{chain_short, links_fewer}
use Rattle.leaders.specs.Leading.{Draws, Extended, passes, Linked, Links, Breaks, Chains}
use Rattle.leaders.proofs.Extending.{extends_none, extends_on, extends_goes}

-- the picture's bits
abbrev pub inputs : Assignment → ℕ → Bool
inputs α k = α (1 + k)

-- smaller already, and each clause true, before place k
abbrev pub smaller_at : ℕ → ℕ → ℕ → ℕ → Assignment → Bool
smaller_at m a b k α = smaller (inputs α) (other m a b (inputs α)) (looks m a b) k

abbrev pub clauses_at : ℕ → ℕ → ℕ → ℕ → Assignment → Bool
clauses_at m a b k α = clauses (inputs α) (other m a b (inputs α)) (looks m a b) k

-- the chain of the places before k, and the literal g of 'smaller already'
pub record Chained (s t : Circuit) (m a b k g : ℕ) : Type 0 where
  pub extends : Extended s t
  pub few : t.count ≤ s.count + links (looks m a b) k
  pub claims_few : t.claimed ≤ s.claimed + links (looks m a b) k
  pub gives : GivesC t g (smaller_at m a b k)
  pub meets : (α : Assignment) → GoesC t α → MeetsC s α → clauses_at m a b k α ≡ true → MeetsC t α
  pub passed : (α : Assignment) → GoesC t α → MeetsC t α → clauses_at m a b k α ≡ true

pub chained_none : (s : Circuit) (m a b : ℕ) → Chained s s m a b 0 1
chained_none s m a b =
    let h = s.sound.some in
    record {
      extends = extends_none s;
      few = omega arith;
      claims_few = omega arith;
      gives = record { low = omega arith; is = λ α goes. value_false α goes.top };
      meets = λ α goes met e. met;
      passed = λ α goes met. refl;
    }

-- literals fit 32 bits
pub chained_small : (s t : Circuit) (m a b k g : ℕ) → Chained s t m a b k g → g < 2 ^ 32
chained_small s t m a b k g c = let r = t.sound.room in let h = t.sound.small in let l = c.gives.low in omega arith

-- said of equal circuits and literals
pub chained_is : (s t t' : Circuit) (m a b k g g' : ℕ) → t' ≡ t → g' ≡ g → Chained s t m a b k g → Chained s t' m a b k g' × (g' < 2 ^ 32)
chained_is s t t' m a b k g g' e f c =
    let d : Chained s t' m a b k g' = subst (λ (x : Circuit). Chained s x m a b k g') (sym e) (subst (λ (x : ℕ). Chained s t m a b k x) (sym f) c) in
    (d, chained_small s t' m a b k g' d)

module _ (s t : Circuit) (m a b k g : ℕ) (c : Chained s t m a b k g) where
  pub chained_skip : source m (swap a b) k ≤ k → Chained s t m a b (k + 1) g
  chained_skip h =
      let e : looks m a b k ≡ false = le-ltb k (source m (swap a b) k) h in
      rw add-one (record {
        extends = c.extends;
        few = rw e (let x = c.few in omega arith);
        claims_few = rw e (let x = c.claims_few in omega arith);
        gives = record { low = c.gives.low; is = λ α goes. rw e (c.gives.is α goes) };
        meets = λ α goes met x. c.meets α goes met (rw e at x);
        passed = λ α goes met. rw e (c.passed α goes met);
      })

  -- a link at place k, between the bit there and the one at f
  module _ (u : Circuit) (f x y : ℕ) (from : f ≡ source m (swap a b) k) (later : k < f) (here : x ≡ 2 * (1 + k)) (there : y ≡ 2 * (1 + f)) where
    looked : looks m a b k ≡ true
    looked = lt-ltb k (source m (swap a b) k) (omega arith)

    value_here : (α : Assignment) → value α x ≡ inputs α k
    value_here α = value_even α x (1 + k) here

    value_there : (α : Assignment) → value α y ≡ other m a b (inputs α) k
    value_there α = value_even α y (1 + f) there ∙ ap (inputs α) from

    -- the link's clause, and the chain's
    passes_here : (α : Assignment) → GoesC t α → passes α g x y ≡ smaller_at m a b k α || (not (inputs α k) || other m a b (inputs α) k)
    passes_here α goes =
        ap (λ (v : Bool). v || (not (value α x) || value α y)) (c.gives.is α goes)
        ∙ ap (λ (v : Bool). smaller_at m a b k α || (not v || value α y)) (value_here α)
        ∙ ap (λ (v : Bool). smaller_at m a b k α || (not (inputs α k) || v)) (value_there α)

    clauses_more : (α : Assignment) → clauses_at m a b (suc k) α ≡ clauses_at m a b k α && (smaller_at m a b k α || (not (inputs α k) || other m a b (inputs α) k))
    clauses_more α = let e = looked in rw e refl

    smaller_more : (α : Assignment) → smaller_at m a b (suc k) α ≡ smaller_at m a b k α || (not (inputs α k) && other m a b (inputs α) k)
    smaller_more α = let e = looked in rw e refl

    links_more : links (looks m a b) (suc k) ≡ links (looks m a b) k + 1
    links_more = let e = looked in rw e (omega arith)

    module _ (linked : Linked t g x y u) where
      goes_before : (α : Assignment) → GoesC u α → GoesC t α
      goes_before α goes = extends_goes linked.extends α goes

      extends_linked : Extended s u
      extends_linked = extends_on c.extends linked.extends

      few_linked : u.count ≤ s.count + links (looks m a b) (suc k)
      few_linked = let p = c.few in let q = linked.few in let r = links_more in omega arith

      claims_few_linked : u.claimed ≤ s.claimed + links (looks m a b) (suc k)
      claims_few_linked = let p = c.claims_few in let q = linked.claims_few in let r = links_more in omega arith

      meets_linked : (α : Assignment) → GoesC u α → MeetsC s α → clauses_at m a b (suc k) α ≡ true → MeetsC u α
      meets_linked α goes met e =
          let parts = and_parts _ _ (sym (clauses_more α) ∙ e) in
          let before = goes_before α goes in
          linked.meets α (c.meets α before met parts.0) (passes_here α before ∙ parts.1)

      -- where there is no room, there is a part of the chain
      pub chain_broken : (n : ℕ) → a < b → b < m → k < n * (m * m) → Breaks t g x y u → Chains s n m a b u false
      chain_broken n ab bm inside broken =
          let short = chain_short n m a b ab bm in
          let fewer : links (looks m a b) (suc k) ≤ links (looks m a b) (n * (m * m)) = rest in
          let p = few_linked in let q = claims_few_linked in
          record {
            extends = extends_linked;
            few = omega arith;
            claims_few = omega arith;
            keeps = λ α p long goes draws e met. meets_linked α goes met (drawn_part n m a b p (omega arith) bm long (inputs α) (λ j h. draws j (omega arith)) (suc k) (omega arith) e);
            leads = λ e. absurd (true≢false (sym e));
            refused = λ e. broken.refused;
          }
        where
          rest : links (looks m a b) (suc k) ≤ links (looks m a b) (n * (m * m))
          rest =
              let h = links_fewer (looks m a b) (suc k) (n * (m * m) - suc k) in
              let e : links (looks m a b) (suc k + (n * (m * m) - suc k)) ≡ links (looks m a b) (n * (m * m)) = ap (links (looks m a b)) (omega arith) in
              omega arith

    pub chained_link : (l : ℕ) → Links t g x y u l → Chained s u m a b (k + 1) l
    chained_link l link =
        rw add-one (record {
          extends = extends_linked link.linked;
          few = few_linked link.linked;
          claims_few = claims_few_linked link.linked;
          gives = record { low = link.gives.low; is = is };
          meets = meets_linked link.linked;
          passed = passed;
        })
      where
        is : (α : Assignment) → GoesC u α → value α l ≡ smaller_at m a b (suc k) α
        is α goes =
            link.gives.is α goes
            ∙ ap (λ (v : Bool). v || (not (value α x) && value α y)) (c.gives.is α (goes_before link.linked α goes))
            ∙ ap (λ (v : Bool). smaller_at m a b k α || (not v && value α y)) (value_here α)
            ∙ ap (λ (v : Bool). smaller_at m a b k α || (not (inputs α k) && v)) (value_there α)
            ∙ sym (smaller_more α)

        passed : (α : Assignment) → GoesC u α → MeetsC u α → clauses_at m a b (suc k) α ≡ true
        passed α goes met =
            let before = goes_before link.linked α goes in
            clauses_more α ∙ and_from _ _ (c.passed α before (link.linked.extends.met α met)) (sym (passes_here α before) ∙ link.passed α met)

  pub chain_whole : (n : ℕ) → a < b → b < m → k ≡ n * (m * m) → Chains s n m a b t true
  chain_whole n ab bm e =
      let short = chain_short n m a b ab bm in
      let all : links (looks m a b) k ≡ links (looks m a b) (n * (m * m)) = ap (links (looks m a b)) e in
      let p = c.few in let q = c.claims_few in
      record {
        extends = c.extends;
        few = omega arith;
        claims_few = omega arith;
        keeps = λ α p long goes draws h met. c.meets α goes met (says α p long draws ∙ h);
        leads = λ t α p long goes draws met. sym (says α p long draws) ∙ c.passed α goes met;
        refused = λ t. absurd (true≢false t);
      }
    where
      says : (α : Assignment) (p : Picture) → length p ≡ n * (m * m) → Draws α p → clauses_at m a b k α ≡ led n m a b p
      says α p long draws = ap (λ (j : ℕ). clauses_at m a b j α) e ∙ drawn_led n m a b p (omega arith) bm long (inputs α) (λ j h. draws j (omega arith))

-- One link: a claim, and then a gate.
use Rattle.std.proofs.Common.{◌≡◌, ℕ, Bool, not, ◌&&◌, ◌||◌, Some, None, Option, sym, ap, ◌∙◌, inl, arith}
use Rattle.clauses.specs.Formulas.{Assignment, value, negation}
use Rattle.clauses.proofs.Literals.{value_negation}
use Rattle.gates.specs.declared.circuit.Circuit.{Circuit}
use Rattle.gates.specs.Words.{mix, either}
use Rattle.gates.specs.Circuits.{AddsC, GivesC, Came, Claims}
use Rattle.leaders.specs.Leading.{passes, Linked, LinksIf}
use Rattle.leaders.proofs.Extending.{extends_on, adds_extends, adds_meets, claims_extends}

module _ (s : Circuit) (g x y z : ℕ) (opposite : z ≡ negation x) where
  value_opposite : (α : Assignment) → value α z ≡ not (value α x)
  value_opposite α = ap (value α) opposite ∙ value_negation α x

  passes_either : (α : Assignment) → either α g z y ≡ passes α g x y
  passes_either α = ap (λ (b : Bool). value α g || (b || value α y)) (value_opposite α)

  module _ (t u : Circuit) (claims : Claims s g z y t) (adds : AddsC t u 1) where
    linked : Linked s g x y u
    linked =
        let a = claims.count in let b = claims.counts in let c = adds.few in let d = adds.grew.claims_count in
        record {
          extends = extends_on (claims_extends s t g z y claims) (adds_extends t u 1 adds);
          few = omega arith;
          claims_few = omega arith;
          meets = λ α h e. adds_meets t u 1 adds α (claims.meets α h (passes_either α ∙ e));
        }

    pub link_came : (r : Option ℕ) → Came u r (λ l. GivesC u l (λ α. mix α g z y)) → LinksIf s g x y u r
    link_came None full = record { linked = linked; refused = inl full }
    link_came (Some l) gives =
        record {
          linked = linked;
          gives = record { low = gives.low; is = λ α h. gives.is α h ∙ ap (λ (b : Bool). value α g || (b && value α y)) (value_opposite α) };
          passed = λ α h. sym (passes_either α) ∙ (claims.met α ((adds_extends t u 1 adds).met α h)).1;
        }

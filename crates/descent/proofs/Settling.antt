-- Variables are settled one by one, as the first model has them.
use Rattle.std.proofs.Common.{◌≡◌, ℕ, ◌+◌, ◌*◌, ◌/◌, ◌%◌, ◌≤◌, Bool, true, false, cond, not, List, [], ◌∷◌, length, get_or, sym, refl, ap, ◌∙◌, subst, ⊎_elim, arith}
use mathlib.Core.Bool.{not-not}
use Rattle.std.proofs.lemmas.Bool.{cases_eq, true≢false, eq-eqb, ne_eqb}
use Rattle.clauses.specs.Formulas.{Assignment, value, Models}
use Rattle.clauses.specs.Stores.{Added}
use Rattle.std.proofs.Math.ListN.{length-append}
use Rattle.clauses.specs.Views.{StoreView}
use Rattle.trail.specs.Views.{TrailView, formula_of}
use Rattle.trail.specs.Trails.{SameClauses}
use Rattle.trail.proofs.Steps.{same_formula}
use Rattle.solver.proofs.Fixing.{models_more, old_models, new_true}
use Rattle.descent.specs.Firsts.{Agree, Lower, FirstModel, Settled, Lowest, Room, literal_for}

positive : (β : Assignment) (x : ℕ) → value β (2 * x) ≡ β x
unfolding value
positive β x =
    let r : 2 * x % 2 ≡ 0 = omega arith in
    let h : 2 * x / 2 ≡ x = omega arith in
    ap (λ (b : Bool). cond b (β (2 * x / 2)) (not (β (2 * x / 2)))) (eq-eqb (2 * x % 2) 0 r) ∙ ap β h

pub negative : (β : Assignment) (x : ℕ) → value β (2 * x + 1) ≡ not (β x)
unfolding value
negative β x =
    let r : (2 * x + 1) % 2 ≡ 0 → ⊥ = λ e. omega arith in
    let h : (2 * x + 1) / 2 ≡ x = omega arith in
    ap (λ (b : Bool). cond b (β ((2 * x + 1) / 2)) (not (β ((2 * x + 1) / 2)))) (ne_eqb ((2 * x + 1) % 2) 0 r) ∙ ap (λ (y : ℕ). not (β y)) h

-- a literal for a Boolean is true exactly where the variable has it
agrees_if : (β : Assignment) (x : ℕ) (b : Bool) → value β (cond b (2 * x) (2 * x + 1)) ≡ true → β x ≡ b
agrees_if β x true t = sym (positive β x) ∙ t
agrees_if β x false t = sym (not-not (β x)) ∙ ap not (sym (negative β x) ∙ t)

true_if : (β : Assignment) (x : ℕ) (b : Bool) → β x ≡ b → value β (cond b (2 * x) (2 * x + 1)) ≡ true
true_if β x true e = positive β x ∙ e
true_if β x false e = negative β x ∙ ap not e

pub settled_none : (f : List (List ℕ)) (α : Assignment) (low : ℕ) → Models f α → Settled f f α low low
settled_none f α low m =
    record { model = m; within = λ β n. (n, λ x a b. absurd (omega arith)); keeps = λ β n _. n; none_lower = λ β n l. omega (arith, l.from, l.inside) }

-- another model of what is left has the same settled variables
pub settled_other : (f g : List (List ℕ)) (α γ : Assignment) (low place : ℕ) → Settled f g α low place → Models g γ → Settled f g γ low place
settled_other f g α γ low place s m =
    let same : Agree α γ low place = (s.within γ m).1 in
    record {
      model = m;
      within = λ β n. ((s.within β n).0, λ x a b. (s.within β n).1 x a b ∙ sym (same x a b));
      keeps = λ β n agree. s.keeps β n (λ x a b. agree x a b ∙ same x a b);
      none_lower = λ β n l. s.none_lower β n (record { at = l.at; from = l.from; inside = l.inside; same = λ x a b. l.same x a b ∙ same x a (omega (arith, l.inside)); zero = l.zero; one = sym (same l.at l.from l.inside) ∙ l.one });
    }

-- a variable is fixed as α has it, where none lower is left
module _ (f : List (List ℕ)) (α : Assignment) (low place l : ℕ) (s t : TrailView) (settled : Settled f (formula_of s) α low place) (lowest : Lowest (formula_of s) α place) (from : low ≤ place) (is : l ≡ literal_for α place) (added : Added (l ∷ []) s.units t.units) (problem : t.problem ≡ s.problem) where
  models_fixed : (β : Assignment) → Models (formula_of s) β → β place ≡ α place → Models (formula_of t) β
  models_fixed β m e =
      models_more s t l added problem β m (ap (value β) is ∙ true_if β place (α place) e)

  agree_more : (β : Assignment) → Agree α β low place → β place ≡ α place → Agree α β low (place + 1)
  agree_more β agree e x a b = ⊎_elim (λ i. ap β i ∙ e ∙ ap α (sym i)) (λ ne. agree x a (omega arith)) (cases_eq x place)

  here : (β : Assignment) → Models f β → (low' : Lower α β low (place + 1)) → low'.at ≡ place → ⊥
  here β n l' i =
      let zero : β place ≡ false = sym (ap β i) ∙ l'.zero in
      let one : α place ≡ true = sym (ap α i) ∙ l'.one in
      let m : Models (formula_of s) β = settled.keeps β n (λ x a b. l'.same x a (omega arith)) in
      ⊎_elim
      (λ e. true≢false (sym one ∙ e))
      (λ none. none β m (λ j h. subst (λ (k : ℕ). value β (get_or ((2 * place + 1) ∷ []) k 0) ≡ true) (let e : 0 ≡ j = omega arith in e) (negative β place ∙ ap not zero)))
      lowest

  pub settled_more : Settled f (formula_of t) α low (place + 1)
  settled_more =
      record {
        model = models_fixed α settled.model refl;
        within = λ β m.
            let old = settled.within β (old_models s t l added problem β m) in
            (old.0, agree_more β old.1 (agrees_if β place (α place) (sym (ap (value β) is) ∙ new_true s t l added problem β m)));
        keeps = λ β n agree. models_fixed β (settled.keeps β n (λ x a b. agree x a (omega arith))) (agree place from (omega arith));
        none_lower = λ β n l'.
            ⊎_elim
            (λ i. here β n l' i)
            (λ ne. settled.none_lower β n (record { at = l'.at; from = l'.from; inside = omega (arith, l'.inside); same = l'.same; zero = l'.zero; one = l'.one }))
            (cases_eq l'.at place);
      }

pub settled_all : (f g : List (List ℕ)) (α : Assignment) (low place high : ℕ) → place ≡ high → Settled f g α low place → FirstModel f α low high
settled_all f g α low place high e s =
    record { model = (s.within α s.model).0; none_lower = λ β n l. s.none_lower β n (record { at = l.at; from = l.from; inside = omega (arith, l.inside); same = l.same; zero = l.zero; one = l.one }) }

-- one clause of one literal more, and there is room for the others
pub room_less : (s t : StoreView) (l more more' : ℕ) → Added (l ∷ []) s t → Room s more → more' + 1 ≤ more → Room t more'
room_less s t l more more' a r less =
    let n : length t.formula ≡ length s.formula + 1 = ap length a.formula ∙ length-append s.formula ((l ∷ []) ∷ []) in
    record { spans = omega (arith, a.memory.spans_size, r.spans); words = omega (arith, a.used, a.memory.words_size, r.words); small = omega (arith, a.used, r.small) }

-- the same memory and clauses after other questions
pub room_same : (s t : TrailView) (more : ℕ) → SameClauses s t → Room s.units more → Room t.units more
room_same s t more same room = subst (λ (u : StoreView). Room u more) (sym same.units) room

pub settled_same : (f : List (List ℕ)) (s t : TrailView) (α γ : Assignment) (low place : ℕ) → SameClauses s t → Settled f (formula_of s) α low place → Models (formula_of t) γ → Settled f (formula_of t) γ low place
settled_same f s t α γ low place same settled m =
    settled_other f (formula_of t) α γ low place (subst (λ (g : List (List ℕ)). Settled f g α low place) (sym (same_formula s t same)) settled) m

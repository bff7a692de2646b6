-- What the steps of the code's trail leave: it is good, falls, and has no decision that was none before.
use Rattle.std.proofs.Common.{◌≡◌, ℕ, ◌+◌, ◌/◌, ◌<◌, ◌≤◌, true, List, [], ◌∷◌, ◌++◌, length, get_or, set, sym, refl, ap, ◌∙◌, subst, ⊎_elim, arith}
use Rattle.std.proofs.lemmas.List.{get_or-set_same, get_or-set_other}
use Rattle.std.proofs.lemmas.Bool.{cases_eq, cases_lt}
use Rattle.std.proofs.Math.ListN.{get_or-append, length-append}
use Rattle.std.proofs.Common.{append_assoc, append-nil}
use Rattle.std.specs.Prelude.{Ok, Err, Result}
use Rattle.clauses.specs.declared.store.Unfit.{Unfit}
use Rattle.clauses.specs.declared.store.Unfit.TheVariants.{Literal, Room}
use Rattle.clauses.specs.Stores.{AddedIf, Follows, clause_at}
use Rattle.clauses.specs.Formulas.{Assignment, value, negation, Satisfies, Models}
use Rattle.trail.specs.Views.{TrailView, formula_of, variables_of}
use Rattle.trail.specs.Trails.{Decided, Stuck, Held, Good, Jammed, Later, Falls, SameClauses, Rooted, RootAfter, Put, Popped, number}
use Rattle.trail.proofs.Holding.{room_for_one, held_more, held_less, stuck_less, turned_round}
use Rattle.trail.proofs.Numbers.{falls_by_one_more, falls_at_decision}
use Rattle.trail.proofs.Assuming.{later_put}

pub same_formula : (s t : TrailView) → SameClauses s t → formula_of t ≡ formula_of s
same_formula s t same = ap (λ p. p.formula ++ t.units.formula) same.problem ∙ ap (λ u. s.problem.formula ++ u.formula) same.units

-- the same clauses and what is held of them
good_same : (s t : TrailView) → SameClauses s t → Good s → Held (formula_of s) (variables_of s) t.values t.literals t.marks t.len → Good t
good_same s t same good held =
    let v : variables_of t ≡ variables_of s = ap (λ p. p.variables) same.problem in
    let u : t.units.variables ≡ s.units.variables = ap (λ x. x.variables) same.units in
    record {
      held = subst (λ (f : List (List ℕ)). Held f (variables_of t) t.values t.literals t.marks t.len) (sym (same_formula s t same)) (subst (λ (n : ℕ). Held (formula_of s) n t.values t.literals t.marks t.len) (sym v) held);
      units = u ∙ good.units ∙ sym v;
    }

-- one literal more
module _ (s t : TrailView) (l mark : ℕ) (good : Good s) (known : l / 2 < variables_of s) (free : get_or s.values (l / 2) 0 ≡ 0) (put : Put s l mark t) where
  pub room : s.len < variables_of s
  room = room_for_one _ _ _ _ _ _ _ _ _ _ mark good.held free known put.values put.literals put.marks

  pub good_put : ((α : Assignment) → Models (formula_of s) α → Decided s.literals s.marks α s.len → (mark ≡ 1 → value α l ≡ true) → value α l ≡ true) → Good t
  good_put implied = good_same s t put.clauses good (held_more _ _ _ _ _ _ _ _ _ _ mark good.held free known put.values put.literals put.marks _ put.len implied)

  pub falls_put : Falls s t
  falls_put budget =
      subst (λ (v : ℕ). number budget t.marks t.len v < number budget s.marks s.len (variables_of s)) (sym (ap (λ p. p.variables) put.clauses.problem))
      (falls_by_one_more budget s.marks t.marks s.len mark put.marks t.len (variables_of s) put.len room)

-- one literal less
module _ (s t : TrailView) (l : ℕ) (good : Good s) (popped : Popped s t l) where
  pub known_popped : l / 2 < variables_of s
  known_popped = subst (λ (x : ℕ). x / 2 < variables_of s) (sym popped.is) (good.held.known t.len (omega (arith, popped.len)))

  pub freed_popped : get_or t.values (l / 2) 0 ≡ 0
  freed_popped = ap (λ (xs : List ℕ). get_or xs (l / 2) 0) popped.values ∙ get_or-set_same s.values (l / 2) 0 0 (omega (arith, known_popped, good.held.size))

  pub good_popped : Good t
  good_popped =
      good_same s t popped.clauses good
      (subst (λ (xs : List ℕ). Held (formula_of s) (variables_of s) t.values xs t.marks t.len) (sym popped.literals)
      (subst (λ (xs : List ℕ). Held (formula_of s) (variables_of s) t.values s.literals xs t.len) (sym popped.marks)
      (held_less (formula_of s) (variables_of s) s.values s.literals s.marks s.len t.len popped.len good.held t.values (popped.values ∙ ap (λ (x : ℕ). set s.values (x / 2) 0) popped.is))))

  pub jammed_popped : Jammed s → (get_or s.marks t.len 0 ≡ 1 → ⊥) → Jammed t
  jammed_popped jammed implied =
      subst (λ (f : List (List ℕ)). Stuck f t.literals t.marks t.len) (sym (same_formula s t popped.clauses))
      (subst (λ (xs : List ℕ). Stuck (formula_of s) xs t.marks t.len) (sym popped.literals)
      (subst (λ (xs : List ℕ). Stuck (formula_of s) s.literals xs t.len) (sym popped.marks)
      (stuck_less (formula_of s) s.literals s.marks s.len t.len popped.len jammed implied)))

-- where no model has all decisions, the last one is false in those that have the others
module _ (s t : TrailView) (l : ℕ) (popped : Popped s t l) where
  pub turned_popped : Jammed s → (α : Assignment) → Models (formula_of t) α → Decided t.literals t.marks α t.len → value α (negation l) ≡ true
  turned_popped jammed α m d =
      ap (λ (x : ℕ). value α (negation x)) popped.is
      ∙ turned_round (formula_of s) s.literals s.marks s.len t.len popped.len jammed α (subst (λ (f : List (List ℕ)). Models f α) (same_formula s t popped.clauses) m)
      (subst (λ (xs : List ℕ). Decided xs s.marks α t.len) popped.literals (subst (λ (xs : List ℕ). Decided t.literals xs α t.len) popped.marks d))

-- an implied literal in the place of a decision, where the literals after it have gone
module _ (s t u : TrailView) (l place : ℕ) (good : Good s) (literals : t.literals ≡ s.literals) (marks : t.marks ≡ s.marks) (len : t.len ≡ place) (clauses : SameClauses s t) (low : place < s.len) (put : Put t l 0 u) where
  inside : place < length s.marks
  inside = omega (arith, good.held.marks_room, good.held.room)

  new_marks : u.marks ≡ set s.marks place 0
  new_marks = put.marks ∙ ap (λ (xs : List ℕ). set xs t.len 0) marks ∙ ap (λ (y : ℕ). set s.marks y 0) len

  pub falls_turned : get_or s.marks place 0 ≡ 1 → Falls s u
  falls_turned one budget =
      let v : variables_of u ≡ variables_of s = ap (λ p. p.variables) put.clauses.problem ∙ ap (λ p. p.variables) clauses.problem in
      subst (λ (n : ℕ). number budget u.marks u.len n < number budget s.marks s.len (variables_of s)) (sym v)
      (falls_at_decision budget s.marks u.marks place 0 new_marks u.len s.len (variables_of s) refl (omega (arith, put.len, len)) inside one low (omega (arith, good.held.room)))

  pub later_turned : Later s u
  later_turned =
      later_put s.literals s.marks u.literals u.marks s.len place l u.len (omega arith) inside
      (put.literals ∙ ap (λ (xs : List ℕ). set xs t.len l) literals ∙ ap (λ (y : ℕ). set s.literals y l) len) new_marks (omega (arith, put.len, len))

pub same_none : (s : TrailView) → SameClauses s s
same_none s = record { problem = refl; units = refl }

pub same_on : (s t u : TrailView) → SameClauses s t → SameClauses t u → SameClauses s u
same_on s t u first second = record { problem = second.problem ∙ first.problem; units = second.units ∙ first.units }

-- a model of more clauses is one of the first
pub models_first : (f g : List (List ℕ)) (α : Assignment) → Models (f ++ g) α → Models f α
models_first f g α m k h = subst (Satisfies α) (get_or-append f g [] k h) (m k (omega (arith, length-append f g)))

-- with more clauses all that is held stays
pub good_added : (s t : TrailView) (g : List (List ℕ)) → Good s → t.problem ≡ s.problem → t.units.formula ≡ s.units.formula ++ g → t.units.variables ≡ s.units.variables → t.values ≡ s.values → t.literals ≡ s.literals → t.marks ≡ s.marks → t.len ≡ s.len → Good t
good_added s t g good problem units same values literals marks len =
    let v : variables_of t ≡ variables_of s = ap (λ p. p.variables) problem in
    let f : formula_of t ≡ formula_of s ++ g = ap (λ p. p.formula ++ t.units.formula) problem ∙ ap (λ u. s.problem.formula ++ u) units ∙ sym (append_assoc s.problem.formula s.units.formula g) in
    let h = good.held in
    let more : Held (formula_of s ++ g) (variables_of s) s.values s.literals s.marks s.len = record {
      size = h.size;
      room = h.room;
      literals_room = h.literals_room;
      marks_room = h.marks_room;
      small = h.small;
      known = h.known;
      stands = h.stands;
      implied = λ α m p l d. h.implied α (models_first (formula_of s) g α m) p l d;
    } in
    record {
      held =
          subst (λ (x : List (List ℕ)). Held x (variables_of t) t.values t.literals t.marks t.len) (sym f)
          (subst (λ (x : ℕ). Held (formula_of s ++ g) x t.values t.literals t.marks t.len) (sym v)
          (subst (λ (x : List ℕ). Held (formula_of s ++ g) (variables_of s) x t.literals t.marks t.len) (sym values)
          (subst (λ (x : List ℕ). Held (formula_of s ++ g) (variables_of s) s.values x t.marks t.len) (sym literals)
          (subst (λ (x : List ℕ). Held (formula_of s ++ g) (variables_of s) s.values s.literals x t.len) (sym marks)
          (subst (λ (x : ℕ). Held (formula_of s ++ g) (variables_of s) s.values s.literals s.marks x) (sym len) more)))));
      units = same ∙ good.units ∙ sym v;
    }

pub good_kept : (s t : TrailView) → Good s → t.problem ≡ s.problem → t.units ≡ s.units → t.values ≡ s.values → t.literals ≡ s.literals → t.marks ≡ s.marks → t.len ≡ s.len → Good t
good_kept s t good problem units = good_added s t [] good problem (ap (λ u. u.formula) units ∙ sym (append-nil s.units.formula)) (ap (λ u. u.variables) units)

-- a clause is added, or refused
pub good_either : (s t : TrailView) (c : List ℕ) (r : Result (Unit {0}) Unfit) → Good s → AddedIf c s.units t.units r → t.problem ≡ s.problem → t.values ≡ s.values → t.literals ≡ s.literals → t.marks ≡ s.marks → t.len ≡ s.len → Good t
good_either s t c (Ok _) good added problem = good_added s t (c ∷ []) good problem added.formula added.memory.variables
good_either s t c (Err Literal) good added problem = good_kept s t good problem added.1
good_either s t c (Err Room) good added problem = good_kept s t good problem added.1

-- a clause of the first follows from all
pub own_first : (f g : List (List ℕ)) (k : ℕ) → k < length f → Follows (f ++ g) (clause_at f k)
own_first f g k h α m = models_first f g α m k h

-- a model of what there is after a clause was added, or refused, is one of what there was
pub models_added : (s t : TrailView) (c : List ℕ) (r : Result (Unit {0}) Unfit) → AddedIf c s.units t.units r → t.problem ≡ s.problem → (α : Assignment) → Models (formula_of t) α → Models (formula_of s) α
models_added s t c (Ok _) added problem α m =
    models_first (formula_of s) (c ∷ []) α
    (subst (λ (f : List (List ℕ)). Models f α) (ap (λ p. p.formula ++ t.units.formula) problem ∙ ap (λ u. s.problem.formula ++ u) added.formula ∙ sym (append_assoc s.problem.formula s.units.formula (c ∷ []))) m)
models_added s t c (Err Literal) added problem α m = subst (λ (f : List (List ℕ)). Models f α) (same_formula s t (record { problem = problem; units = added.1 })) m
models_added s t c (Err Room) added problem α m = subst (λ (f : List (List ℕ)). Models f α) (same_formula s t (record { problem = problem; units = added.1 })) m

-- the root, when a literal comes and when one goes
module _ (marks : List ℕ) (root n : ℕ) (rooted : Rooted marks root) (low : root ≤ n) (decided : root < n → get_or marks root 0 ≡ 1) where
  module _ (mark root' : ℕ) (inside : n < length marks) (after : RootAfter root n mark root') where
    pub low_put : root' ≤ n + 1
    low_put = ⊎_elim (λ h. omega (arith, after.before h)) (λ h. let e : root ≡ n = omega arith in ⊎_elim (λ d. omega (arith, after.decided e d)) (λ d. omega (arith, after.implied e d)) (cases_eq mark 1)) (cases_lt root n)

    pub rooted_put : Rooted (set marks n mark) root'
    rooted_put q h one =
        ⊎_elim
        (λ i. ⊎_elim
        (λ b. let e = after.before b in omega arith)
        (λ b. let e : root ≡ n = omega arith in ⊎_elim (λ d. let s = after.decided e d in omega arith) (λ d. d (sym (get_or-set_same marks n mark 0 inside) ∙ ap (λ (y : ℕ). get_or (set marks n mark) y 0) (sym i) ∙ one)) (cases_eq mark 1))
        (cases_lt root n))
        (λ ne. rooted q (let l = low_put in ⊎_elim (λ b. let e = after.before b in omega arith) (λ b. let e : root ≡ n = omega arith in omega arith) (cases_lt root n)) (sym (get_or-set_other marks n q mark 0 ne) ∙ one))
        (cases_eq q n)

    pub decided_put : root' < n + 1 → get_or (set marks n mark) root' 0 ≡ 1
    decided_put h =
        ⊎_elim
        (λ b. let e = after.before b in ap (λ (y : ℕ). get_or (set marks n mark) y 0) e ∙ get_or-set_other marks n root mark 0 (omega arith) ∙ decided b)
        (λ b. let e : root ≡ n = omega arith in ⊎_elim (λ d. ap (λ (y : ℕ). get_or (set marks n mark) y 0) (after.decided e d ∙ e) ∙ get_or-set_same marks n mark 0 inside ∙ d) (λ d. let s = after.implied e d in absurd (omega arith)) (cases_eq mark 1))
        (cases_lt root n)

-- there is a place for a literal of a variable that has no value
pub room_here : (s : TrailView) (l : ℕ) → Good s → l / 2 < variables_of s → get_or s.values (l / 2) 0 ≡ 0 → s.len < variables_of s
room_here s l good known free = room_for_one _ _ _ _ _ _ _ _ _ _ 0 good.held free known refl refl refl

-- Steps of a search, one after the other.
use Rattle.std.proofs.Common.{◌≡◌, ℕ, ◌-◌, ◌/◌, ◌<◌, ◌≤◌, List, [], ◌∷◌, ◌++◌, ⊎_elim, length, sym, ap, subst, refl, ◌∙◌, le_trans, arith}
use Rattle.clauses.specs.Views.{ClausesView}
use Rattle.std.specs.Prelude.{Ok, Err, Result}
use Rattle.std.proofs.Math.ListN.{get_or-append, length-append}
use Rattle.std.proofs.Math.Seq.{get_or-append_seam}
use Rattle.std.proofs.lemmas.Bool.{cases_lt}
use Rattle.clauses.specs.declared.store.Unfit.{Unfit}
use Rattle.clauses.specs.declared.store.Unfit.TheVariants.{Literal, Room}
use Rattle.clauses.specs.Views.{StoreView}
use Rattle.clauses.specs.Stores.{clause_at, Known, Follows, Sound, AddedIf}
use Rattle.trail.proofs.Assuming.{later_none, later_on}
use Rattle.trail.proofs.Steps.{same_none, same_on, own_first, models_added}
use Rattle.trail.specs.Trails.{Good}
use Rattle.trail.specs.Views.{TrailView, variables_of as variables_on}
use Rattle.propagation.specs.declared.search.Look.{Look}
use Rattle.propagation.specs.declared.search.Look.TheVariants.{Replace, Implied, Conflict}
use Rattle.propagation.specs.Views.{SearchView, variables_of, formula_of, numbers_of}
use Rattle.propagation.specs.Looking.{LookSays, LookFinds}
use Rattle.propagation.specs.Searching.{Ready, Same, Onward, Numbered}
use Rattle.propagation.proofs.Seeing.{stuck, implied_by, implies_other, all_differ}

pub stays : (s : SearchView) → Same s s
stays s = record { clauses = same_none s.trail; learned = refl }

pub stays_on : (s t u : SearchView) → Same s t → Same t u → Same s u
stays_on s t u first second = record { clauses = same_on _ _ _ first.clauses second.clauses; learned = second.learned ∙ first.learned }

pub onward_none : (s : SearchView) → Onward s s
onward_none s = record { same = stays s; falls = λ budget. omega arith; later = later_none _ _ _ }

pub onward_on : (s t u : SearchView) → Onward s t → Onward t u → Onward s u
onward_on s t u first second = record { same = stays_on s t u first.same second.same; falls = λ budget. le_trans (second.falls budget) (first.falls budget); later = later_on _ _ _ _ _ _ _ _ _ first.later second.later }

-- what a look at a clause that follows finds
pub found : (s : SearchView) (number other : ℕ) (c : List ℕ) (look : Look) → Good s.trail → number < numbers_of s → Follows (formula_of s) c → other / 2 < variables_of s → LookSays (variables_of s) s.trail.values c other look → LookFinds s number other look
found s number other c (Replace l) good inside follows known says = says
found s number other c Implied good inside follows known says =
    (known, says.0, implied_by _ _ _ _ _ _ good.held other (implies_other (formula_of s) s.trail.values c other follows says.1))
found s number other c Conflict good inside follows known says =
    (stuck _ _ _ _ _ _ good.held (all_differ (formula_of s) s.trail.values c other follows says.1 says.0), inside)

-- a clause of the problem, by its number, and one that was learned
pub numbered_problem : (s : SearchView) (number : ℕ) (p : ClausesView) (c : List ℕ) → p ≡ s.trail.problem → number < length p.formula → c ≡ clause_at p.formula number → Known p.variables c → Numbered s number c
numbered_problem s number p c same inside is known =
    let l : length p.formula ≡ length s.trail.problem.formula = ap (λ x. length x.formula) same in
    record {
      inside = omega arith;
      given = λ h. is ∙ ap (λ x. clause_at x.formula number) same;
      taught = λ h. absurd (omega arith);
      known = subst (λ (x : ClausesView). Known x.variables c) same known;
      follows = subst (Follows (formula_of s)) (sym (is ∙ ap (λ x. clause_at x.formula number) same)) (own_first s.trail.problem.formula s.trail.units.formula number (omega arith));
    }

pub numbered_learned : (s : SearchView) (number base : ℕ) (c : List ℕ) → Ready s → base ≡ length s.trail.problem.formula → base ≤ number → number - base < length s.learned.formula → c ≡ clause_at s.learned.formula (number - base) → Known s.learned.variables c → Numbered s number c
numbered_learned s number base c ready same above inside is known =
    record {
      inside = omega arith;
      given = λ h. absurd (omega arith);
      taught = λ h. is ∙ ap (λ (b : ℕ). clause_at s.learned.formula (number - b)) same;
      known = subst (λ (v : ℕ). Known v c) ready.known known;
      follows = subst (Follows (formula_of s)) (sym is) (ready.sound (number - base) inside);
    }

-- what follows, and one clause more
pub sound_more : (f g : List (List ℕ)) (c : List ℕ) → Sound f g → Follows f c → Sound f (g ++ (c ∷ []))
sound_more f g c sound follows k h =
    ⊎_elim
    (λ l. subst (Follows f) (sym (get_or-append g (c ∷ []) [] k l)) (sound k l))
    (λ l.
    let e : k ≡ length g = omega (arith, length-append g (c ∷ [])) in
    subst (Follows f) (sym (ap (λ (j : ℕ). clause_at (g ++ (c ∷ [])) j) e ∙ get_or-append_seam g c [] [])) follows)
    (cases_lt k (length g))

-- a clause was kept, or there was no room
pub ready_kept : (s : SearchView) (l : StoreView) (c : List ℕ) (r : Result (Unit {0}) Unfit) → Ready s → Follows (formula_of s) c → AddedIf c s.learned l r → Ready (record s { learned = l })
ready_kept s l c (Ok _) ready follows added =
    record { sound = subst (Sound (formula_of s)) (sym added.formula) (sound_more (formula_of s) s.learned.formula c ready.sound follows); known = added.memory.variables ∙ ready.known; causes = ready.causes; few = ready.few }
ready_kept s l c (Err Literal) ready follows added = subst (λ (x : StoreView). Ready (record s { learned = x })) (sym added.1) ready
ready_kept s l c (Err Room) ready follows added = subst (λ (x : StoreView). Ready (record s { learned = x })) (sym added.1) ready

-- what was learned follows from more clauses, too
pub ready_added : (s : SearchView) (t : TrailView) (c : List ℕ) (r : Result (Unit {0}) Unfit) → Ready s → AddedIf c s.trail.units t.units r → t.problem ≡ s.trail.problem → Ready (record s { trail = t })
ready_added s t c r ready added problem =
    let v : variables_on t ≡ variables_of s = ap (λ p. p.variables) problem in
    record {
      sound = λ k h α m. ready.sound k h α (models_added s.trail t c r added problem α m);
      known = ready.known ∙ sym v;
      causes = ready.causes ∙ sym v;
      few = omega (arith, ready.few);
    }

-- Marks come and go, and every model differs at a marked variable.
use Rattle.std.proofs.Common.{◌≡◌, ℕ, ◌+◌, ◌*◌, ◌/◌, ◌%◌, ◌<◌, Bool, true, false, cond, eqb, ◌⊎◌, List, [], ◌∷◌, ◌++◌, length, get_or, set, take, sym, ap, ◌∙◌, subst, inl, inr, arith}
use Rattle.std.specs.Prelude.{Some, None, Option, OnSome}
use Rattle.std.proofs.Math.ListN.{get_or-append, length-append}
use Rattle.std.proofs.Math.Seq.{get_or-append_seam}
use Rattle.std.proofs.lemmas.List.{get_or-set_other, get_or-take, length-take-le}
use Rattle.std.proofs.lemmas.Bool.{cases_eq, cases_lt, both_ways, not-true, eq-eqb, ne_eqb}
use Rattle.clauses.specs.Formulas.{Assignment, value, negation, Satisfies}
use Rattle.clauses.specs.Stores.{Known, Follows}
use Rattle.clauses.proofs.Literals.{value_negation, negation_half}
use Rattle.trail.specs.Trails.{IsTrueUnder, IsFalseUnder, OnTrail, Held, Rooted}
use Rattle.analysis.specs.declared.Analysis.TheInside.{Inside}
use Rattle.analysis.specs.Views.{AnalysisView}
use Rattle.analysis.specs.Keeping.{analysis_view, IsNoted}
use Rattle.analysis.specs.Marking.{literal_of, Noted, Grown, Never, Differs, Apart, AllTaken, Elsewhere, Absorbed, Gathered}

-- a literal that stands false before any decision
pub never : (f : List (List ℕ)) (v : ℕ) (values literals marks : List ℕ) (n root place l : ℕ) → Held f v values literals marks n → Rooted marks root → place < root → place < n → get_or literals place 0 ≡ negation l → Never f l
never f v values literals marks n root place l held rooted low inside e α m t =
    let s : value α (negation l) ≡ true = sym (ap (value α) e) ∙ held.implied α m place inside (λ q h one. absurd (rooted q (omega arith) one)) in
    both_ways (value α l) (not-true (value α l) (sym (value_negation α l) ∙ s)) t

-- a clause that every model satisfies, all of whose literals were taken
pub absorbed : (f : List (List ℕ)) (v : ℕ) (values seen clause : List ℕ) (except : ℕ) → Known v clause → Follows f clause → AllTaken f values seen clause except → Absorbed f v values seen except
absorbed f v values seen clause except known follows taken α m = here (follows α m)
  where
    by : (t : Satisfies α clause) → (get_or clause t.at 0 ≡ except) ⊎ (get_or clause t.at 0 ≡ except → ⊥) → ((except / 2 < v) × (value α except ≡ true)) ⊎ Elsewhere values seen except α
    by t (inl e) = inl (subst (λ (z : ℕ). z / 2 < v) e (known t.at t.inside), sym (ap (value α) e) ∙ t.holds)
    by t (inr ne) =
        let x = taken t.at t.inside ne in
        elim x.marked [
          | inl q ↦ inr (record { differs = record { literal = get_or clause t.at 0; is_false = x.is_false; marked = q; holds = t.holds }; other = x.other })
          | inr n ↦ absurd (n α m t.holds)
        ]

    here : Satisfies α clause → ((except / 2 < v) × (value α except ≡ true)) ⊎ Elsewhere values seen except α
    here t = by t (cases_eq (get_or clause t.at 0) except)

pub absorbed_if : (f : List (List ℕ)) (v : ℕ) (values seen clause : List ℕ) (except : ℕ) (r : Option (Unit {0})) → Known v clause → Follows f clause → OnSome r (AllTaken f values seen clause except) → OnSome r (Absorbed f v values seen except)
absorbed_if f v values seen clause except (Some _) known follows taken = absorbed f v values seen clause except known follows taken
absorbed_if f v values seen clause except None known follows taken = taken

-- a clause that is false
pub apart_first : (f : List (List ℕ)) (v : ℕ) (values seen : List ℕ) → v < 2147483648 → Absorbed f v values seen 0xffff_ffff → Apart f values seen
apart_first f v values seen few a α m = elim (a α m) [ inl t ↦ absurd (omega (arith, t.0)) | inr e ↦ e.differs ]

-- a literal that is true replaced by its reason
pub apart_resolved : (f : List (List ℕ)) (v : ℕ) (values seen seen' : List ℕ) (l : ℕ) → IsTrueUnder values l → Grown seen seen' → Apart f values seen → Absorbed f v values seen' l → Apart f values (set seen' (l / 2) 0)
unfolding negation
apart_resolved f v values seen seen' l on g apart a α m = here (apart α m) (cases_eq ((apart α m).literal / 2) (l / 2))
  where
    kept : (d : Differs values seen' α) → (d.literal / 2 ≡ l / 2 → ⊥) → Differs values (set seen' (l / 2) 0) α
    kept d ne = record { literal = d.literal; is_false = d.is_false; marked = get_or-set_other seen' (l / 2) (d.literal / 2) 0 0 ne ∙ d.marked; holds = d.holds }

    here : (d : Differs values seen α) → (d.literal / 2 ≡ l / 2) ⊎ (d.literal / 2 ≡ l / 2 → ⊥) → Differs values (set seen' (l / 2) 0) α
    here d (inr ne) = kept (record { literal = d.literal; is_false = d.is_false; marked = g (d.literal / 2) d.marked; holds = d.holds }) ne
    here d (inl e) =
        elim (a α m) [
          | inl t ↦ absurd (both_ways (value α l) (not-true (value α l) (sym (value_negation α l) ∙ sym (ap (value α) (opposite d e)) ∙ d.holds)) t.1)
          | inr x ↦ kept x.differs x.other
        ]
      where
        opposite : (d : Differs values seen α) → d.literal / 2 ≡ l / 2 → d.literal ≡ negation l
        opposite d e = let s : get_or values (d.literal / 2) 0 ≡ get_or values (l / 2) 0 = ap (λ (z : ℕ). get_or values z 0) e in omega (arith, d.is_false, on)

-- a clause with one literal more
module _ (clause : List ℕ) (l : ℕ) where
  before : (j : ℕ) → j < length clause → get_or (clause ++ l ∷ []) j 0 ≡ get_or clause j 0
  before j h = get_or-append clause (l ∷ []) 0 j h

  here : get_or (clause ++ l ∷ []) (length clause) 0 ≡ l
  here = get_or-append_seam clause l [] 0

  long : length (clause ++ l ∷ []) ≡ length clause + 1
  long = length-append clause (l ∷ [])

  pub known_more : (v : ℕ) → Known v clause → l / 2 < v → Known v (clause ++ l ∷ [])
  known_more v known small j h =
      elim (cases_lt j (length clause)) [
        | inl b ↦ subst (λ (x : ℕ). x / 2 < v) (sym (before j b)) (known j b)
        | inr b ↦ let e : j ≡ length clause = omega (arith, long) in subst (λ (x : ℕ). x / 2 < v) (sym (ap (λ (y : ℕ). get_or (clause ++ l ∷ []) y 0) e ∙ here)) small
      ]

  pub satisfies_more : (α : Assignment) → Satisfies α clause → Satisfies α (clause ++ l ∷ [])
  satisfies_more α t = record { at = t.at; inside = omega (arith, t.inside, long); holds = ap (value α) (before t.at t.inside) ∙ t.holds }

  pub satisfies_last : (α : Assignment) → value α l ≡ true → Satisfies α (clause ++ l ∷ [])
  satisfies_last α t = record { at = length clause; inside = omega (arith, long); holds = ap (value α) here ∙ t }

  pub stands_more : (x : ℕ) → OnTrail clause (length clause) x → OnTrail (clause ++ l ∷ []) (length (clause ++ l ∷ [])) x
  stands_more x o = record { at = o.at; high = omega (arith, o.high, long); is = before o.at o.high ∙ o.is }

  pub stands_last : OnTrail (clause ++ l ∷ []) (length (clause ++ l ∷ [])) l
  stands_last = record { at = length clause; high = omega (arith, long); is = here }

-- the literal of a variable that is false
pub half : (values : List ℕ) (x : ℕ) → literal_of values x / 2 ≡ x
half values x = by (eqb (get_or values x 0) 1)
  where
    by : (b : Bool) → cond b (2 * x + 1) (2 * x) / 2 ≡ x
    by true = omega arith
    by false = omega arith

-- the false literal of each marked variable, one by one
module _ (v : ℕ) (values seen variables clause : List ℕ) (x : ℕ) (g : Gathered v values seen variables clause) where
  earlier : (i : ℕ) → i < length (variables ++ x ∷ []) → (i < length variables) ⊎ (get_or (variables ++ x ∷ []) i 0 ≡ x)
  earlier i h =
      elim (cases_lt i (length variables)) [
        | inl b ↦ inl b
        | inr b ↦ let e : i ≡ length variables = omega (arith, long variables x) in inr (ap (λ (y : ℕ). get_or (variables ++ x ∷ []) y 0) e ∙ here variables x)
      ]

  pub gathered_skip : (get_or seen x 0 ≡ 1 → ⊥) → Gathered v values seen (variables ++ x ∷ []) clause
  gathered_skip ne =
      record {
        known = g.known;
        each = λ i h e. elim (earlier i h) [
          | inl b ↦ subst (λ (y : ℕ). OnTrail clause (length clause) (literal_of values y)) (sym (before variables x i b)) (g.each i b (sym (ap (λ (y : ℕ). get_or seen y 0) (before variables x i b)) ∙ e))
          | inr s ↦ absurd (ne (sym (ap (λ (y : ℕ). get_or seen y 0) s) ∙ e))
        ];
      }

  pub gathered_more : (l : ℕ) → l ≡ literal_of values x → x < v → Gathered v values seen (variables ++ x ∷ []) (clause ++ l ∷ [])
  gathered_more l is small =
      record {
        known = known_more clause l v g.known (subst (λ (y : ℕ). y < v) (sym (ap (λ (y : ℕ). y / 2) is ∙ half values x)) small);
        each = λ i h e. elim (earlier i h) [
          | inl b ↦ subst (λ (y : ℕ). OnTrail (clause ++ l ∷ []) (length (clause ++ l ∷ [])) (literal_of values y)) (sym (before variables x i b)) (stands_more clause l _ (g.each i b (sym (ap (λ (y : ℕ). get_or seen y 0) (before variables x i b)) ∙ e)))
          | inr s ↦ subst (λ (y : ℕ). OnTrail (clause ++ l ∷ []) (length (clause ++ l ∷ [])) y) (is ∙ sym (ap (literal_of values) s)) (stands_last clause l)
        ];
      }

false_is : (values : List ℕ) (l : ℕ) → IsFalseUnder values l → literal_of values (l / 2) ≡ l
false_is values l e =
    elim (cases_eq (l % 2) 0) [
      | inl p ↦ ap (λ (b : Bool). cond b (2 * (l / 2) + 1) (2 * (l / 2))) (ne_eqb (get_or values (l / 2) 0) 1 (λ q. omega arith)) ∙ omega arith
      | inr p ↦ ap (λ (b : Bool). cond b (2 * (l / 2) + 1) (2 * (l / 2))) (eq-eqb (get_or values (l / 2) 0) 1 (omega arith)) ∙ omega arith
    ]

-- where models differ at a marked variable, they satisfy the clause
pub gathered_all : (f : List (List ℕ)) (v w : ℕ) (values seen touched clause : List ℕ) (count : ℕ) → Noted w seen touched count → Apart f values seen → Gathered v values seen (take count touched) clause → Follows f clause
gathered_all f v w values seen touched clause count noted apart g α m =
    let d = apart α m in
    let x : ℕ = d.literal / 2 in
    let o = noted.listed x d.marked in
    let long : length (take count touched) ≡ count = length-take-le count touched noted.room in
    let there : get_or (take count touched) o.at 0 ≡ x = get_or-take count touched o.at 0 o.high ∙ o.is in
    let b = g.each o.at (omega (arith, o.high)) (ap (λ (z : ℕ). get_or seen z 0) there ∙ d.marked) in
    let e : get_or clause b.at 0 ≡ d.literal = b.is ∙ ap (literal_of values) there ∙ false_is values d.literal d.is_false in
    record { at = b.at; inside = b.high; holds = ap (value α) e ∙ d.holds }

-- what was met is a variable
pub met_small : (v : ℕ) (seen touched : List ℕ) (count index : ℕ) → Noted v seen touched count → index < length (take count touched) → get_or (take count touched) index 0 < v
met_small v seen touched count index noted inside =
    let h : index < count = omega (arith, inside, length-take-le count touched noted.room) in
    subst (λ (x : ℕ). x < v) (sym (get_or-take count touched index 0 h)) (noted.known index h)

-- a variable that was met, by the negation of its false literal
pub met_half : (a : Inside) (b : AnalysisView) (v : ℕ) (values : List ℕ) (index l m : ℕ) → analysis_view a ≡ b → IsNoted a → length b.seen ≡ v → index < a.count → l ≡ literal_of values (get_or a.touched.now index 0) → m ≡ negation l → m / 2 < v
met_half a b v values index l m same noted size inside is turned =
    let e : m / 2 ≡ get_or a.touched.now index 0 = ap (λ (x : ℕ). x / 2) turned ∙ negation_half l ∙ ap (λ (x : ℕ). x / 2) is ∙ half values (get_or a.touched.now index 0) in
    omega (arith, e, ap (λ (x : AnalysisView). length x.seen) same, noted.noted.known index inside)

-- What stands on a trail is true, and stands there once: there are as many places as variables with a value, and each of
-- these has one.
use Rattle.std.proofs.Common.{◌≡◌, ℕ, zero, suc, ◌+◌, ◌-◌, ◌*◌, ◌/◌, ◌%◌, ◌<◌, ◌≤◌, List, [], ◌∷◌, cond, eqb, length, get_or, set, sym, ap, ◌∙◌, subst, ⊎_elim, arith}
use Rattle.std.proofs.lemmas.List.{length-set, get_or_past, get_or-set_same, get_or-set_other}
use Rattle.std.proofs.lemmas.List.Sums.{sum_by-set, sum_by-cons}
use Rattle.std.proofs.lemmas.Bool.{cases_eq, cases_lt, cond-false, ne_eqb}
use Rattle.trail.specs.Trails.{IsTrueUnder, unknown, Held}

-- a variable's literal stands at one of the first n places
pub record Stands (literals : List ℕ) (n x : ℕ) : Type 0 where
  pub at : ℕ
  pub high : at < n
  pub is : get_or literals at 0 / 2 ≡ x

abbrev One : ℕ → ℕ
One x = cond (eqb x 0) 1 0

none_known : (values : List ℕ) → ((x : ℕ) → get_or values x 0 ≡ 0) → length values ≤ unknown values
unfolding unknown
none_known [] empty = omega arith
none_known (y ∷ ys) empty =
    let e : One y ≡ 1 = ap One (empty 0) in
    let r = none_known ys (λ x. empty (suc x)) in
    let d : unknown (y ∷ ys) ≡ One y + unknown ys = sum_by-cons One y ys in
    omega arith

-- each variable that has a value stands at one of n places, so no more of them have one
pub crowd : (n : ℕ) (values literals : List ℕ) → ((x : ℕ) → (get_or values x 0 ≡ 0 → ⊥) → Stands literals n x) → length values ≤ unknown values + n
unfolding unknown
crowd zero values literals stands =
    let none = none_known values (λ x. ⊎_elim (λ e. e) (λ ne. let s = stands x ne in absurd (omega (arith, s.high))) (cases_eq (get_or values x 0) 0)) in
    omega arith
crowd (suc m) values literals stands =
    ⊎_elim
    (λ e.
    let r = crowd m values literals (λ x known. before x known (λ i. known (ap (λ (y : ℕ). get_or values y 0) i ∙ e))) in
    omega arith)
    (λ ne.
    let inside : last < length values = ⊎_elim (λ h. h) (λ h. absurd (ne (get_or_past values last 0 h))) (cases_lt last (length values)) in
    let s : unknown (set values last 0) + One (get_or values last 0) ≡ unknown values + One 0 = sum_by-set One values last 0 0 inside in
    let c : One (get_or values last 0) ≡ 0 = cond-false _ 1 0 (ne_eqb _ _ ne) in
    let r = crowd m (set values last 0) literals (λ x known. ⊎_elim (λ i. absurd (known (ap (λ (y : ℕ). get_or (set values last 0) y 0) i ∙ get_or-set_same values last 0 0 inside))) (λ d. before x (λ z. known (get_or-set_other values last x 0 0 d ∙ z)) d) (cases_eq x last)) in
    omega (arith, length-set values last 0))
    (cases_eq (get_or values last 0) 0)
  where
    last : ℕ
    last = get_or literals m 0 / 2

    before : (x : ℕ) → (get_or values x 0 ≡ 0 → ⊥) → (x ≡ last → ⊥) → Stands literals m x
    before x known other =
        let s = stands x known in
        record { at = s.at; high = ⊎_elim (λ i. absurd (other (sym s.is ∙ ap (λ (y : ℕ). get_or literals y 0 / 2) i))) (λ d. omega (arith, s.high)) (cases_eq s.at m); is = s.is }

-- it stands at a place other than p
record StandsApart (literals : List ℕ) (n p x : ℕ) : Type 0 where
  at : ℕ
  high : at < n
  apart : at ≡ p → ⊥
  is : get_or literals at 0 / 2 ≡ x

module _ (f : List (List ℕ)) (v : ℕ) (values literals marks : List ℕ) (n : ℕ) (held : Held f v values literals marks n) where
  -- no place can be spared
  spared : (p : ℕ) → p < n → ((x : ℕ) → (get_or values x 0 ≡ 0 → ⊥) → StandsApart literals n p x) → ⊥
  spared p within each =
      let m : ℕ = n - 1 in
      let room : p < length literals = omega (arith, held.room, held.literals_room) in
      let few = crowd m values (set literals p (get_or literals m 0))
      (λ x known.
      let s = each x known in
      ⊎_elim
      (λ i. record { at = p; high = omega (arith, s.apart, s.high); is = ap (λ (y : ℕ). y / 2) (get_or-set_same literals p (get_or literals m 0) 0 room) ∙ ap (λ (y : ℕ). get_or literals y 0 / 2) (sym i) ∙ s.is })
      (λ ne. record { at = s.at; high = omega (arith, s.high); is = ap (λ (y : ℕ). y / 2) (get_or-set_other literals p s.at (get_or literals m 0) 0 s.apart) ∙ s.is })
      (cases_eq s.at m)) in
      omega (arith, held.room, held.size)

  -- a variable that has a value stands where its literal does
  standing : (x : ℕ) → (get_or values x 0 ≡ 0 → ⊥) → (l : ℕ) × (IsTrueUnder values l × (l / 2 ≡ x))
  standing x known =
      let l : ℕ = 2 * x + (get_or values x 0 - 1) in
      let half : l / 2 ≡ x = omega (arith, held.small x) in
      (l, (ap (λ (y : ℕ). get_or values y 0) half ∙ omega (arith, held.small x), half))

  pub placed : (p : ℕ) → p < n → IsTrueUnder values (get_or literals p 0)
  placed p h =
      ⊎_elim
      (λ e. e)
      (λ ne. absurd (spared p h
      (λ x known.
      let l = standing x known in
      let o = held.stands l.0 l.1.0 in
      record {
        at = o.at;
        high = o.high;
        apart = λ i. ne (subst (λ (y : ℕ). get_or values (y / 2) 0 ≡ 1 + y % 2) (sym o.is ∙ ap (λ (y : ℕ). get_or literals y 0) i) l.1.0);
        is = ap (λ (y : ℕ). y / 2) o.is ∙ l.1.1;
      })))
      (cases_eq (get_or values (get_or literals p 0 / 2) 0) (1 + get_or literals p 0 % 2))

  pub distinct : (p q : ℕ) → p < q → q < n → get_or literals p 0 / 2 ≡ get_or literals q 0 / 2 → ⊥
  distinct p q order high same =
      spared q high
      (λ x known.
      let l = standing x known in
      let o = held.stands l.0 l.1.0 in
      let is : get_or literals o.at 0 / 2 ≡ x = ap (λ (y : ℕ). y / 2) o.is ∙ l.1.1 in
      ⊎_elim
      (λ i. record { at = p; high = omega arith; apart = λ j. omega arith; is = same ∙ ap (λ (y : ℕ). get_or literals y 0 / 2) (sym i) ∙ is })
      (λ ne. record { at = o.at; high = o.high; apart = ne; is = is })
      (cases_eq o.at q))

-- `find_map` over the numbers below m: what holds of the first at which the call answered, and of those before.
use Rattle.std.proofs.Common.{◌≡◌, ℕ, ◌+◌, ◌<◌, Some, None, Option, option_map, ap, ◌∙◌, subst, arith}
use Rattle.std.proofs.iter.Yields.{nat_range_steps}
use Rattle.std.proofs.iter.runs.Sources.{range_runs}
use Rattle.std.specs.Bool.{IsTrue}
use Rattle.std.specs.Fn.{Called}
use Rattle.std.specs.Iterator.Runs.{Run, SomeRun, ItemsCountUp, CallKeepsClosure, AllItemsGive, IsFirstToGive}
use Rattle.std.specs.Option.{MatchOption, IfSome, IsSomeAnd}
use Rattle.std.specs.declared.ops.Range.{Range}
use Rattle.descriptions.proofs.Inversion.{some_same}
use denote.Param.Members.{Mut}

-- an item that is there
at_item : (o : Option ℕ) (P : ℕ → Type 0) (k : ℕ) → option_map (λ y. y) o ≡ Some k → IsSomeAnd o P → P k
at_item None P k e h = absurd h
at_item (Some x) P k e h = subst P (some_same x k e) h

if_item : (o : Option ℕ) (P : ℕ → Type 0) (k : ℕ) → option_map (λ y. y) o ≡ Some k → IfSome o P → P k
if_item None P k e h = absurd (let z : ◌≡◌ {A = ℕ} 0 1 = cc in omega arith)
if_item (Some x) P k e h = subst P (some_same x k e) h

module _ {F B : Type 0} {g : Mut F (ℕ × Unit {0}) (Option B)} {f : F} (m : ℕ) (No : ℕ → Type 0) (Yes : ℕ → B → Type 0) (keeps : CallKeepsClosure g f) (no : (x : ℕ) → x < m → Called g f (x, tt) None f → No x) (yes : (x : ℕ) (y : B) → x < m → Called g f (x, tt) (Some y) f → Yes x y) where
  abbrev below : Range ℕ
  below = record { start = 0; end = m }

  module _ (p : Run nat_range_steps) (from : p.from ≡ below) where
    counts : ItemsCountUp p 0 m
    counts = subst (λ (s : Range ℕ). ItemsCountUp p s.start s.end) from (range_runs p p.seen)

    item : (k : ℕ) → k < p.len → option_map (λ y. y) (p.at k) ≡ Some k
    item k h = counts.3 k h ∙ ap Some (omega arith)

  pub first_in_range : (r : Option B) → SomeRun nat_range_steps below (λ p. MatchOption r (IsTrue p.whole × AllItemsGive p g f None) (λ y. (i : ℕ) × (i < p.len) × (p.len ≡ i + 1) × IsFirstToGive p g f (Some y) None i)) → MatchOption r ((k : ℕ) → k < m → No k) (λ y. (i : ℕ) × (i < m) × Yes i y × ((k : ℕ) → k < i → No k))
  first_in_range None h =
      let c = counts h.0 h.1 in let l = c.1 h.2.0 in
      λ k lt. no k lt (if_item (h.0.at k) (λ x. Called g f (x, tt) None f) k (item h.0 h.1 k (omega arith)) (h.2.1 keeps k))
  first_in_range (Some y) h =
      let i : ℕ = h.2.0 in let c = counts h.0 h.1 in let l = c.0 in let in_run = h.2.1 in let q = h.2.3 keeps in
      (i, omega arith, yes i y (omega arith) (at_item (h.0.at i) (λ x. Called g f (x, tt) (Some y) f) i (item h.0 h.1 i in_run) q.0), λ k lt. no k (omega arith) (at_item (h.0.at k) (λ x. Called g f (x, tt) None f) k (item h.0 h.1 k (omega arith)) (q.1 k lt)))

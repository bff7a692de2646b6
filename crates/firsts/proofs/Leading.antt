-- Lex-leaders: what transpositions leave out has an earlier picture of the same description, so the first is left.
use Rattle.std.proofs.Common.{◌≡◌, ℕ, zero, suc, ◌*◌, ◌<◌, Bool, true, false, not, ◌||◌, List, sym, refl, ◌∙◌, inl, inr, arith}
use Rattle.std.proofs.lemmas.Bool.{both_ways, not-false, not_from_false, and_cases, or_parts, cases_Bool}
use Rattle.descriptions.specs.Pictures.{Relation, every, Picture}
use Rattle.descriptions.specs.Meaning.{Description, of}
use Rattle.descriptions.specs.Bytes.{Reads}
use Rattle.descriptions.specs.Theorems.{Sized, Permutes}
use Rattle.descriptions.specs.First.{FirstOfSize}
use Rattle.descriptions.proofs.Quantifiers.{every_at}
use Rattle.symmetry.proofs.Moves.{names_are_nothing}
use Rattle.firsts.specs.Orders.{before}
use Rattle.firsts.specs.Sieves.{Sieved}
use Rattle.firsts.specs.Leaders.{moved, swap, led, leads, Leader, Earlier, LeadersKeep}
use Rattle.firsts.proofs.Order.{true_before}
use Rattle.firsts.proofs.Sieve.{first_of_size}
use Rattle.firsts.proofs.Places.{length_moved, is_moved, swap_twice, swap_permutes}

every_fails : (m : ℕ) (f : ℕ → Bool) → every m f ≡ false → (k : ℕ) × (k < m) × (f k ≡ false)
every_fails zero f e = absurd (both_ways true e refl)
every_fails (suc m) f e =
    elim (and_cases (f m) (every m f) e)
    [ inl x ↦ (m, omega arith, x) | inr x ↦ let r = every_fails m f x in (r.0, omega (arith, r.1), r.2) ]

every_each : (m : ℕ) (f : ℕ → Bool) → every m f ≡ true → (k : ℕ) → k < m → f k ≡ true
every_each m f e k h = elim (cases_Bool (f k)) [ inl x ↦ x | inr x ↦ absurd (both_ways (every m f) (every_at m k f h x) e) ]

-- each pair of things
abbrev pub all_pairs : Relation
all_pairs a b = true

leads_leader : (n m : ℕ) (p : Picture) → leads n m all_pairs p ≡ true → Leader n m p
leads_leader n m p e a b ab bm = every_each m (λ b. led n m a b p) (every_each m (λ a. every m (λ b. led n m a b p)) e a (omega arith)) b bm

module _ (s : List ℕ) (d : Description) (m : ℕ) (reads : Reads s d) where
  -- for any permutation f, undone by g
  module _ (f g : ℕ → ℕ) (permutes : Permutes m f) (back : (i : ℕ) → i < m → g (f i) ≡ i) where
    pub moved_earlier : (p : Picture) → Sized d m p → before (moved d.relations m g p) p ≡ true → Earlier d m p
    moved_earlier p l e =
        record {
          permutation = f;
          picture = moved d.relations m g p;
          permutes = permutes;
          sized = length_moved d.relations m g p;
          moves = is_moved d.relations m f g permutes back p;
          earlier = true_before _ _ e;
          same = sym (names_are_nothing s d m f p (moved d.relations m g p) reads l (length_moved d.relations m g p) permutes (is_moved d.relations m f g permutes back p));
        }

  -- the first has no earlier one
  pub first_not_replaced : (p : Picture) → FirstOfSize d m p → Earlier d m p → ⊥
  first_not_replaced p first e = both_ways (of d m e.picture) (first.none_before e.picture e.sized e.earlier) (e.same ∙ first.is_of)

  pub replaced : (chosen : Relation) (p : Picture) → Sized d m p → leads d.relations m chosen p ≡ false → Earlier d m p
  replaced chosen p l e =
      let a = every_fails m (λ a. every m (λ b. not (chosen a b) || led d.relations m a b p)) e in
      let b = every_fails m (λ b. not (chosen a.0 b) || led d.relations m a.0 b p) a.2 in
      moved_earlier (swap a.0 b.0) (swap a.0 b.0) (swap_permutes a.0 b.0 m a.1 b.1) (λ i h. swap_twice a.0 b.0 i) p l
      (not-false _ (or_parts _ _ b.2).1)

  pub first_leads : (chosen : Relation) (p : Picture) → FirstOfSize d m p → leads d.relations m chosen p ≡ true
  first_leads chosen p first = elim (cases_Bool (leads d.relations m chosen p)) [ inl e ↦ e | inr e ↦ absurd (first_not_replaced p first (replaced chosen p first.sized e)) ]

  -- the first leads for each pair of things
  pub first_is_leader : (p : Picture) → FirstOfSize d m p → Leader d.relations m p
  first_is_leader p first a b ab hb =
      elim (cases_Bool (before (moved d.relations m (swap a b) p) p))
      [ inl e ↦ absurd (first_not_replaced p first (moved_earlier (swap a b) (swap a b) (swap_permutes a b m (omega arith) hb) (λ i h. swap_twice a b i) p first.sized e)) | inr e ↦ not_from_false _ e ]

  -- what is no leader has an earlier one
  pub unless_leader : (p : Picture) → Sized d m p → (Leader d.relations m p → ⊥) → Earlier d m p
  unless_leader p l none = elim (cases_Bool (leads d.relations m all_pairs p)) [ inl e ↦ absurd (none (leads_leader d.relations m p e)) | inr e ↦ replaced all_pairs p l e ]

  -- what clauses leave: pictures of the description only, and all of them that lead
  pub leaders_sieve : (Left : Picture → Type 0) → ((p : Picture) → Sized d m p → Left p → of d m p ≡ true) → ((p : Picture) → Sized d m p → of d m p ≡ true → Leader d.relations m p → Left p) → Sieved (d.relations * (m * m)) (of d m) Left
  leaders_sieve Left within keeps = record { within = within; keeps = λ p f. keeps p f.long f.it_has (first_is_leader p (first_of_size d m p f)) }

pub leaders_keep : LeadersKeep
leaders_keep s d m chosen reads = record { replaced = replaced s d m reads chosen; keeps = first_leads s d m reads chosen }

-- What is read at a place, from what is read of its operands, whatever is said of it: for every recursion over bytes.
use Rattle.std.proofs.Common.{◌≡◌, ℕ, ◌+◌, Bool, true, List, ◌∷◌, ◌++◌, drop, Some, None, Option, sym, ap, ◌∙◌, subst, append_assoc, arith}
use Rattle.std.proofs.lemmas.Bool.{and_parts, and_from}
use Rattle.descriptions.specs.Reading.{Stands, Absent, Read, write_pair, fine_pair}
use Rattle.descriptions.proofs.Unique.{Unique, tail_same}

-- an operator: its byte, what it makes of its operands, and that what begins with the byte is made by it
pub record Operator {X A : Type 0} (writeX : X → List ℕ) (fineX : X → Bool) (write_a : A → List ℕ) (fineA : A → Bool) (code : ℕ) : Type 0 where
  pub make : A → X
  pub writes : (a : A) → writeX (make a) ≡ code ∷ write_a a
  pub fines : (a : A) → fineX (make a) ≡ fineA a
  pub made : (e : X) (u t : List ℕ) → code ∷ u ≡ writeX e ++ t → (a : A) × (e ≡ make a)

module _ {X A : Type 0} (writeX : X → List ℕ) (fineX : X → Bool) (write_a : A → List ℕ) (fineA : A → Bool) (code : ℕ) (s : List ℕ) (at : ℕ) (begins : drop at s ≡ code ∷ drop (at + 1) s) (o : Operator writeX fineX write_a fineA code) where
  -- its operands stand after the byte
  pub operator_stands : (end : ℕ) (P : A → Type 0) (Q : X → Type 0) → ((a : A) → P a → Q (o.make a)) → Stands write_a fineA s (at + 1) end P → Stands writeX fineX s at end Q
  operator_stands end P Q f r =
      record { part = o.make r.part; is_fine = o.fines r.part ∙ r.is_fine; written = begins ∙ ap (λ (u : List ℕ). code ∷ u) r.written ∙ ap (λ (u : List ℕ). u ++ drop end s) (sym (o.writes r.part)); further = omega (arith, r.further); inside = r.inside; says = f r.part r.says }

  under : (e : X) (t : List ℕ) → fineX e ≡ true → drop at s ≡ writeX e ++ t → (a : A) × (e ≡ o.make a) × (fineA a ≡ true) × (drop (at + 1) s ≡ write_a a ++ t)
  under e t ok p =
      let m = o.made e (drop (at + 1) s) t (sym begins ∙ p) in
      (m.0, m.1, sym (o.fines m.0) ∙ ap fineX (sym m.1) ∙ ok, tail_same code code _ _ (sym begins ∙ p ∙ ap (λ (z : X). writeX z ++ t) m.1 ∙ ap (λ (z : List ℕ). z ++ t) (o.writes m.0)))

  -- its operands do not stand there
  pub operator_absent : (N : A → Type 0) (M : X → Type 0) → ((a : A) → N a → M (o.make a)) → Absent write_a fineA s (at + 1) N → Absent writeX fineX s at M
  operator_absent N M f r e t ok p = let w = under e t ok p in subst M (sym w.1) (f w.0 (r w.0 t w.2 w.3))

  -- they do, and the operator fails for a reason
  pub operator_fails : Unique write_a → (end : ℕ) (P : A → Type 0) (M : X → Type 0) → ((a : A) → P a → M (o.make a)) → Stands write_a fineA s (at + 1) end P → Absent writeX fineX s at M
  operator_fails unique end P M f r e t ok p =
      let w = under e t ok p in
      let q = (unique r.part w.0 (drop end s) t (sym r.written ∙ w.3)).0 in
      subst M (sym w.1) (subst (λ (x : A). M (o.make x)) q (f r.part r.says))

  -- its operands were read, or not
  pub operator_read : {R : Type 0} (end : R → ℕ) (P : A → R → Type 0) (Q : X → R → Type 0) (N : A → Type 0) (M : X → Type 0) → ((a : A) (r : R) → P a r → Q (o.make a) r) → ((a : A) → N a → M (o.make a)) → (r : Option R) → Read write_a fineA s (at + 1) end P N r → Read writeX fineX s at end Q M r
  operator_read end P Q N M f g None x = operator_absent N M g x
  operator_read end P Q N M f g (Some r) x = operator_stands (end r) (λ a. P a r) (λ e. Q e r) (λ a. f a r) x

module _ {A : Type 0} (write : A → List ℕ) (fine : A → Bool) (s : List ℕ) (at : ℕ) where
  -- two parts, one after the other
  pub pair_stands : (mid end : ℕ) (P Q : A → Type 0) (R : A × A → Type 0) → ((a b : A) → P a → Q b → R (a, b)) → Stands write fine s at mid P → Stands write fine s mid end Q → Stands (write_pair write) (fine_pair fine) s at end R
  pair_stands mid end P Q R f g r =
      record {
        part = (g.part, r.part);
        is_fine = and_from _ _ g.is_fine r.is_fine;
        written = g.written ∙ ap (λ (u : List ℕ). write g.part ++ u) r.written ∙ sym (append_assoc (write g.part) (write r.part) (drop end s));
        further = omega (arith, g.further, r.further);
        inside = r.inside;
        says = f g.part r.part g.says r.says;
      }

  halves : (x : A × A) (t : List ℕ) → drop at s ≡ write_pair write x ++ t → drop at s ≡ write x.0 ++ (write x.1 ++ t)
  halves x t p = p ∙ append_assoc (write x.0) (write x.1) t

  -- the first of the two is not there
  pub pair_absent : (N : A → Type 0) (M : A × A → Type 0) → ((a b : A) → N a → M (a, b)) → Absent write fine s at N → Absent (write_pair write) (fine_pair fine) s at M
  pair_absent N M f r x t ok p = let k = and_parts (fine x.0) (fine x.1) ok in f x.0 x.1 (r x.0 (write x.1 ++ t) k.0 (halves x t p))

  -- the second is not
  pub pair_half : Unique write → (mid : ℕ) (P N : A → Type 0) (M : A × A → Type 0) → ((a b : A) → P a → N b → M (a, b)) → Stands write fine s at mid P → Absent write fine s mid N → Absent (write_pair write) (fine_pair fine) s at M
  pair_half unique mid P N M f g r x t ok p =
      let k = and_parts (fine x.0) (fine x.1) ok in
      let q = unique g.part x.0 (drop mid s) (write x.1 ++ t) (sym g.written ∙ halves x t p) in
      f x.0 x.1 (subst P q.0 g.says) (r x.1 t k.1 q.1)

-- what stands at a place is one part, so that what is said of one is said of any
pub stands_one : {A : Type 0} (write : A → List ℕ) (fine : A → Bool) (s : List ℕ) (at end : ℕ) (P : A → Type 0) → Unique write → Stands write fine s at end P → (a : A) (t : List ℕ) → drop at s ≡ write a ++ t → P a
stands_one write fine s at end P unique r a t p = subst P (unique r.part a (drop end s) t (sym r.written ∙ p)).0 r.says

-- Pictures that have been tried.
use Rattle.std.proofs.Common.{◌≡◌, ℕ, ◌+◌, ◌*◌, ◌<◌, ◌≤◌, Bool, true, false, List, length, Some, None, Option, unwrap_or, sym, refl, ap, ◌∙◌, subst, inl, inr, arith}
use Rattle.std.specs.Option.{MatchOption}
use Rattle.descriptions.specs.declared.shapes.Shape.{Shape}
use Rattle.descriptions.specs.Pictures.{Picture, Before}
use Rattle.descriptions.specs.Meaning.{Description, of}
use Rattle.descriptions.specs.Theorems.{Sized}
use Rattle.descriptions.specs.First.{NoPicture, FirstOfSize}
use Rattle.descriptions.proofs.Unique.{one_description}
use Rattle.descriptions.proofs.Order.{before_total, zeros_first, after, after_falls}
use Rattle.evaluator.specs.declared.packing.Packed.{Packed}
use Rattle.evaluator.specs.Packing.{unpacked}
use Rattle.evaluator.specs.Evaluating.{Judged, JudgedIf}
use Rattle.evaluator.proofs.Pictures.{length_unpacked, get_or_unpacked, no_words, bit_at_zeros}
use Rattle.exhaustive.specs.Trying.{Last, Shaped, Blank, NextIs, About, Tells, Reached, FirstOf, ReachedUpTo, FirstUpTo}

judged_tells : (s : List ℕ) (p : Packed) (b : Bool) → Judged p s b → Tells s p b
judged_tells s p b j = record { tells = λ d r e. j.is_of ∙ ap (λ (x : Description). of x p.shape.size.things (unpacked p)) (one_description s j.description d j.reads r) }

pub judged_or_not : (s : List ℕ) (p : Packed) (r : Option Bool) → JudgedIf p s r → Tells s p (unwrap_or r false)
judged_or_not s p (Some b) j = judged_tells s p b j
judged_or_not s p None f = record { tells = λ d r e. absurd (f d r e) }

pub blank_is : (z : Shape) (long : length no_words ≡ 8) → Blank z.relations z.size.things (record { words = no_words; shape = z; long = long })
blank_is z long = record { shaped = record { relations = refl; things = refl }; zeros = bit_at_zeros z.size.things }

-- none before the candidate is of the description
pub record Passed (s : List ℕ) (n m : ℕ) (p : Packed) : Type 0 where
  pub shaped : Shaped n m p
  pub none : About s n (λ d. (q : Picture) → Sized d m q → Before q (unpacked p) → of d m q ≡ false)

module _ (s : List ℕ) (n m : ℕ) where
  -- pictures of the candidate's size
  sized : (p : Packed) → Shaped n m p → (d : Description) → d.relations ≡ n → length (unpacked p) ≡ d.relations * (m * m)
  sized p f d e = length_unpacked p ∙ ap (λ (x : ℕ). x * (p.shape.size.things * p.shape.size.things)) (f.relations ∙ sym e) ∙ ap (λ (x : ℕ). d.relations * (x * x)) f.things

  told : (p : Packed) (b : Bool) → Shaped n m p → Tells s p b → About s n (λ d. b ≡ of d m (unpacked p))
  told p b f t d r e = t.tells d r (e ∙ sym f.relations) ∙ ap (λ (x : ℕ). of d x (unpacked p)) f.things

  pub passed_none : (p : Packed) → Blank n m p → Passed s n m p
  passed_none p b = record { shaped = b.shaped; none = λ d r e q l h. absurd (zeros_first (unpacked p) (λ k g. get_or_unpacked p k (subst (λ (x : ℕ). k < x) (length_unpacked p) g) ∙ b.zeros k) q h) }

  moved : (p q : Packed) → Shaped n m p → Shaped p.shape.relations p.shape.size.things q → Shaped n m q
  moved p q f g = record { relations = g.relations ∙ f.relations; things = g.things ∙ f.things }

  pub passed_more : (p q : Packed) → Passed s n m p → Tells s p false → NextIs p q → Passed s n m q
  passed_more p q f t a =
      record {
        shaped = moved p q f.shaped a.shaped;
        none = λ d r e x l h.
            elim ((a.next).nothing_between x (l ∙ sym (sized p f.shaped d e)) h)
            [ inl y ↦ f.none d r e x l y | inr y ↦ ap (of d m) y ∙ sym (told p false f.shaped t d r e) ];
      }

  pub passed_all : (p : Packed) → Passed s n m p → Tells s p false → Last (unpacked p) → FirstOf s n m None
  passed_all p f t a d r e x l =
      elim (before_total x (unpacked p) (l ∙ sym (sized p f.shaped d e)))
      [ inl y ↦ f.none d r e x l y | inr (inl y) ↦ ap (of d m) y ∙ sym (told p false f.shaped t d r e) | inr (inr y) ↦ absurd (a x (l ∙ sym (sized p f.shaped d e)) y) ]

  pub reached : (p : Packed) → Passed s n m p → Tells s p true → Reached s n m p
  reached p f t = record { shaped = f.shaped; first = λ d r e. record { sized = sized p f.shaped d e; is_of = sym (told p true f.shaped t d r e); none_before = f.none d r e } }

-- fewer pictures are left
pub fewer_left : (p q : Packed) → NextIs p q → after (unpacked q) < after (unpacked p)
fewer_left p q a =
    after_falls (a.next).after (length_unpacked p ∙ ap (λ (x : ℕ). x * (p.shape.size.things * p.shape.size.things)) (sym a.shaped.relations) ∙ ap (λ (x : ℕ). q.shape.relations * (x * x)) (sym a.shaped.things) ∙ sym (length_unpacked q))

-- of fewer things there is none
abbrev pub NoneBelow : List ℕ → ℕ → ℕ → Type 0
NoneBelow s n k = About s n (λ d. (m : ℕ) → m < k → NoPicture d m)

-- of fewer things there is none, and of so many there is one
first_of_all : (s : List ℕ) (n k most : ℕ) (p : Packed) → k ≤ most → NoneBelow s n k → Reached s n k p → ReachedUpTo s n most p
first_of_all s n k most p le f r =
    let e = r.shaped.things in
    record {
      shaped = record { relations = r.shaped.relations; things = refl };
      few = omega arith;
      first = λ d x y. record { first = subst (λ (m : ℕ). FirstOfSize d m (unpacked p)) (sym e) (r.first d x y); none_smaller = λ j h. f d x y j (omega arith) };
    }

pub found_up_to : (s : List ℕ) (n most : ℕ) (r : Option Packed) → MatchOption r ((k : ℕ) → k < most + 1 → FirstOf s n k None) (λ p. (i : ℕ) × (i < most + 1) × Reached s n i p × ((k : ℕ) → k < i → FirstOf s n k None)) → FirstUpTo s n most r
found_up_to s n most None h = λ d r e m le. h m (omega arith) d r e
found_up_to s n most (Some p) h = first_of_all s n h.0 most p (omega (arith, h.1)) (λ d r e m lt. h.3 m lt d r e) h.2

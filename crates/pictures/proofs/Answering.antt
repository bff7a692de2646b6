-- Each answer keeps the promise.
use Rattle.std.proofs.Common.{◌≡◌, ℕ, ◌*◌, ◌<◌, ◌≤◌, ◌⊎◌, List, length, take, drop, Some, None, Option, Ok, Err, Result, sym, refl, ap, ◌∙◌, subst, inl, inr, arith}
use Rattle.std.specs.Option.{ok_or}
use Rattle.descriptions.specs.declared.shapes.Outline.{Outline}
use Rattle.descriptions.specs.Meaning.{Description}
use Rattle.descriptions.specs.Bytes.{Reads, depth}
use Rattle.descriptions.specs.Reading.{Outlines, OutlineSays}
use Rattle.descriptions.proofs.Unique.{one_description}
use Rattle.symmetry.proofs.Moves.{names_are_nothing}
use Rattle.evaluator.specs.declared.packing.Packed.{Packed}
use Rattle.evaluator.specs.Packing.{unpacked, Unpacks}
use Rattle.evaluator.proofs.Pictures.{length_unpacked}
use Rattle.exhaustive.specs.Trying.{FirstUpTo}
use Rattle.pictures.specs.declared.Refusal.{Refusal}
use Rattle.pictures.specs.declared.Refusal.TheVariants.{NoDescription, OutFull, Few}
use Rattle.pictures.specs.Promise.{Found, floor_of, TooFewWords, Parts, FoundPost}

parts : Parts
parts = record { one_description = one_description; names_are_nothing = names_are_nothing }

answer_no_description : (s : List ℕ) (n : ℕ) (o : List ℕ) (w : ℕ) → ((d : Description) → Reads s d → ⊥) → FoundPost s n o o w (Err NoDescription)
answer_no_description s n o w f = record { says = record { none = f; same = refl }; room = λ d r t. absurd (f d r); full = λ d r l. absurd (f d r); parts = parts }

err_same : {A : Type 0} (e e' : Refusal) → ◌≡◌ {A = Result A Refusal} (Err e) (Err e') → e ≡ e'
err_same e e' q = cc

-- the refusal that an outline that is missing is turned into
pub answer_no_outline : (s : List ℕ) (n : ℕ) (o : List ℕ) (w : ℕ) (x : Option Outline) (e : Refusal) (r : Found) → OutlineSays s x → Err e ≡ ok_or x NoDescription → r ≡ Err e → FoundPost s n o o w r
answer_no_outline s n o w None e r f q p = subst (FoundPost s n o o w) (sym (p ∙ ap (λ (y : Refusal). Err y) (err_same e NoDescription q))) (answer_no_description s n o w f)
answer_no_outline s n o w (Some x) e r f q p = absurd (let z : ◌≡◌ {A = ℕ} 0 1 = cc in omega arith)

-- the outline that is there
pub outlined : (s : List ℕ) (x : Option Outline) (y : Outline) → OutlineSays s x → x ≡ Some y → Outlines s y
outlined s x y f q = subst (OutlineSays s) q f

module _ (s : List ℕ) (n : ℕ) (o : List ℕ) (w : ℕ) (outline : Outline) (f : Outlines s outline) where
  -- every description that the bytes are is the one that was outlined
  depth_is : (d : Description) → Reads s d → depth d.sentence ≡ outline.depth
  depth_is d r = ap (λ (x : Description). depth x.sentence) (one_description s d f.description r f.reads) ∙ sym f.depth

  relations_are : (d : Description) → Reads s d → d.relations ≡ outline.relations
  relations_are d r = ap (λ (x : Description). x.relations) (one_description s d f.description r f.reads) ∙ sym f.relations

  bits_are : (d : Description) → Reads s d → d.relations * (n * n) ≡ outline.relations * (n * n)
  bits_are d r = ap (λ (x : ℕ). x * (n * n)) (relations_are d r)

  pub answer_few : (8 < n) ⊎ (w < floor_of (length s) n outline.depth) → FoundPost s n o o w (Err Few)
  answer_few t =
      record {
        says = record { description = f.description; reads = f.reads; few = subst (λ (q : ℕ). (8 < n) ⊎ (w < floor_of (length s) n q)) f.depth t; same = refl };
        room = λ d r x. refl;
        full = λ d r l. inr refl;
        parts = parts;
      }

  module _ (few : n ≤ 8) (room : floor_of (length s) n outline.depth ≤ w) where
    enough : (d : Description) → Reads s d → TooFewWords s n w d → ⊥
    enough d r (inl h) = omega arith
    enough d r (inr h) = let x : w < floor_of (length s) n outline.depth = subst (λ (q : ℕ). w < floor_of (length s) n q) (depth_is d r) h in omega arith

    pub answer_out_full : length o < outline.relations * (n * n) → FoundPost s n o o w (Err OutFull)
    answer_out_full h =
        record {
          says = record { description = f.description; reads = f.reads; short = let e = bits_are f.description f.reads in omega arith; same = refl };
          room = λ d r x. absurd (enough d r x);
          full = λ d r l. inl refl;
          parts = parts;
        }

    module _ (fits : outline.relations * (n * n) ≤ length o) where
      spacious : (r : Found) (d : Description) → Reads s d → length o < d.relations * (n * n) → (r ≡ Err OutFull) ⊎ (r ≡ Err Few)
      spacious r d x l = absurd (let e = bits_are d x in omega arith)

      pub answer_none : FirstUpTo s outline.relations n None → FoundPost s n o o w (Ok None)
      answer_none g =
          record {
            says = record { description = f.description; reads = f.reads; none = g f.description f.reads (sym f.relations); same = refl };
            room = λ d r x. absurd (enough d r x);
            full = spacious (Ok None);
            parts = parts;
          }

      pub answer_first : (p : Packed) (o' : List ℕ) → FirstUpTo s outline.relations n (Some p) → Unpacks p o o' → FoundPost s n o o' w (Ok (Some p.shape.size.things))
      answer_first p o' g u =
          let l = length_unpacked p in
          record {
            says = record {
              description = f.description;
              picture = unpacked p;
              reads = f.reads;
              few = g.few;
              first = g.first f.description f.reads (sym f.relations);
              written = ap (λ (k : ℕ). take k o') l ∙ u.first;
              rest = ap (λ (k : ℕ). drop k o') l ∙ u.rest ∙ sym (ap (λ (k : ℕ). drop k o) l);
            };
            room = λ d r x. absurd (enough d r x);
            full = spacious (Ok (Some p.shape.size.things));
            parts = parts;
          }

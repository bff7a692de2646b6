-- Counting up.
use Rattle.std.proofs.Common.{◌≡◌, ℕ, ◌+◌, ◌*◌, ◌/◌, ◌%◌, ◌<◌, ◌≤◌, Bool, true, false, cond, not, eqb, List, length, get_or, set, sym, refl, ap, ◌∙◌, arith}
use Rattle.std.proofs.lemmas.Bool.{eq-eqb, ne_eqb}
use Rattle.descriptions.proofs.Order.{ones_last}
use Rattle.matrices.specs.Words.{bit}
use Rattle.evaluator.specs.declared.packing.Packed.{Packed}
use Rattle.descriptions.specs.declared.shapes.Spot.{Spot}
use Rattle.descriptions.specs.Shapes.{SpotAt}
use Rattle.evaluator.specs.Packing.{bit_at, size, unpacked}
use Rattle.evaluator.proofs.Pictures.{bit_at_changed, length_unpacked, get_or_unpacked}
use Rattle.exhaustive.specs.Trying.{NextIs, Last}
use Rattle.exhaustive.proofs.Nexts.{raised_next}

-- from a place on, ones have become zeros
pub record Carried (p : Packed) (ws : List ℕ) (at : ℕ) : Type 0 where
  pub long : length ws ≡ 8
  pub same : (k : ℕ) → k < at → bit_at ws p.shape.size.things k ≡ bit_at p.words p.shape.size.things k
  pub ones : (k : ℕ) → at ≤ k → k < size p → bit_at p.words p.shape.size.things k ≡ true
  pub zeros : (k : ℕ) → at ≤ k → k < size p → bit_at ws p.shape.size.things k ≡ false

pub carried_none : (p : Packed) (n : ℕ) → size p ≤ n → Carried p p.words n
carried_none p n h = record { long = p.long; same = λ k l. refl; ones = λ k l g. absurd (omega arith); zeros = λ k l g. absurd (omega arith) }

pub carried_all : (p : Packed) (ws : List ℕ) (at : ℕ) → at ≡ 0 → Carried p ws at → Last (unpacked p)
carried_all p ws at e c = ones_last (unpacked p) (λ k h. let l = length_unpacked p in get_or_unpacked p k (omega arith) ∙ c.ones k (omega arith) (omega arith))

-- one more bit is changed
module _ (p : Packed) (ws : List ℕ) (at w : ℕ) (spot : Spot) (c : Carried p ws (at + 1)) (inside : at < size p) (here : SpotAt p.shape.relations at p.shape.size.things spot) (flipped : (j : ℕ) → bit w j ≡ cond (eqb j spot.place) (not (bit (get_or ws spot.relation 0) j)) (bit (get_or ws spot.relation 0) j)) where
  abbrev m : ℕ
  m = p.shape.size.things

  abbrev turned : List ℕ
  turned = set ws spot.relation w

  each : (k : ℕ) → bit_at turned m k ≡ cond (eqb k at) (not (bit_at ws m k)) (bit_at ws m k)
  each k =
      let f : (j : ℕ) → bit w j ≡ cond (eqb j (at % (m * m))) (not (bit (get_or ws (at / (m * m)) 0) j)) (bit (get_or ws (at / (m * m)) 0) j) = λ j. flipped j ∙ ap (λ (x : ℕ). cond (eqb j x) (not (bit (get_or ws spot.relation 0) j)) (bit (get_or ws spot.relation 0) j)) here.place ∙ ap (λ (x : ℕ). cond (eqb j (at % (m * m))) (not (bit (get_or ws x 0) j)) (bit (get_or ws x 0) j)) here.relation in
      let low : at / (m * m) < length ws = let a = here.known in let e = here.relation in let l = c.long in let g = p.shape.few in omega arith in
      ap (λ (x : ℕ). bit_at (set ws x w) m k) here.relation ∙ bit_at_changed ws m at w (λ e b. cond e (not b) b) (λ b. refl) k low f

  kept : (k : ℕ) → (k ≡ at → ⊥) → bit_at turned m k ≡ bit_at ws m k
  kept k ne = each k ∙ ap (λ (b : Bool). cond b (not (bit_at ws m k)) (bit_at ws m k)) (ne_eqb k at ne)

  new : bit_at turned m at ≡ not (bit_at ws m at)
  new = each at ∙ ap (λ (b : Bool). cond b (not (bit_at ws m at)) (bit_at ws m at)) (eq-eqb at at refl)

  was : bit_at p.words m at ≡ bit_at ws m at
  was = sym (c.same at (omega arith))

  -- the bit, as the code tests it
  module _ (tested : false ≡ bit (get_or ws spot.relation 0) spot.place) where
    bit_is : bit_at ws m at ≡ false
    bit_is = sym (tested ∙ ap (λ (x : ℕ). bit (get_or ws spot.relation 0) x) here.place ∙ ap (λ (x : ℕ). bit (get_or ws x 0) (at % (m * m))) here.relation)

    pub raised : (long : length turned ≡ 8) → NextIs p (record { words = turned; shape = p.shape; long = long })
    raised long =
        let q : Packed = record { words = turned; shape = p.shape; long = long } in
        let l = length_unpacked p in
        record {
          shaped = record { relations = refl; things = refl };
          next = raised_next (unpacked p) (unpacked q) at (record {
            long = length_unpacked q ∙ sym l;
            within = omega arith;
            same = λ k h. get_or_unpacked q k (omega arith) ∙ kept k (λ e. omega arith) ∙ c.same k (omega arith) ∙ sym (get_or_unpacked p k (omega arith));
            was = get_or_unpacked p at inside ∙ was ∙ bit_is;
            is = get_or_unpacked q at inside ∙ new ∙ ap not bit_is;
            ones = λ k h g. get_or_unpacked p k (omega arith) ∙ c.ones k (omega arith) (omega arith);
            zeros = λ k h g. get_or_unpacked q k (omega arith) ∙ kept k (λ e. omega arith) ∙ c.zeros k (omega arith) (omega arith);
          });
        }

-- Pictures packed into words.
use Rattle.std.proofs.Common.{◌≡◌, ℕ, zero, suc, ◌+◌, ◌*◌, ◌/◌, ◌%◌, ◌<◌, ◌≤◌, Bool, true, false, cond, ◌&&◌, ◌||◌, eqb, ltb, ◌⊎◌, List, [], ◌∷◌, ◌++◌, length, get_or, take, drop, set, sym, refl, ap, ◌∙◌, inl, inr, mul-le-mul_right, suc-mul, arith, below_more}
use Rattle.std.proofs.lemmas.Nat.{div-mul-add, mod-mul-add, div-add-mod'}
use Rattle.std.proofs.Math.Bool.{or-false}
use Rattle.std.proofs.Math.Seq.{take-append_seam, drop-append_seam}
use Rattle.std.proofs.lemmas.List.FromFn.{get_or-map-range_with_len, length-map-range_with_len}
use Rattle.std.proofs.lemmas.List.{ext_get_or, length-set, get_or-set_same, get_or-set_other}
use Rattle.std.proofs.lemmas.Bool.{lt-ltb, eq-eqb, ne_eqb, eqb-true, cases_eq}
use Rattle.descriptions.specs.Pictures.{Picture, relation_of}
use Rattle.descriptions.proofs.Quantifiers.{same_truth}
use Rattle.descriptions.proofs.Places.{place_sum}
use Rattle.matrices.specs.Words.{bit, matrix}
use Rattle.matrices.proofs.Bits.{bit_zero}
use Rattle.matrices.proofs.Fill.{place_below}
use Rattle.evaluator.specs.declared.packing.Packed.{Packed}
use Rattle.descriptions.specs.declared.shapes.Shape.{Shape}
use Rattle.descriptions.specs.declared.shapes.Spot.{Spot}
use Rattle.descriptions.specs.Shapes.{SpotAt}
use Rattle.evaluator.specs.Packing.{bit_at, size, unpacked, bits, Unpacks, Packs}

-- a relation's bits lie before those of the next
pub row_fits : (r n q : ℕ) → r < n → r * q + q ≤ n * q
row_fits r n q h = let a : suc r * q ≤ n * q = mul-le-mul_right q h in let e = suc-mul r q in omega arith

-- a word is the relation of its number
pub relation_is : (p : Packed) (r i j : ℕ) → r < p.shape.relations → i < p.shape.size.things → j < p.shape.size.things → relation_of p.shape.size.things (unpacked p) r i j ≡ matrix p.shape.size.things (get_or p.words r 0) i j
relation_is p r i j hr hi hj =
    let m : ℕ = p.shape.size.things in
    let q : ℕ = m * m in
    let t : ℕ = i * m + j in
    let lt : t < q = place_below m i j hi hj in
    let k : r * q + t < p.shape.relations * q = let f = row_fits r p.shape.relations q hr in omega arith in
    let e : (r * m + i) * m + j ≡ r * q + t = place_sum m r i j in
    ap (λ (b : Bool). b && (ltb j m && get_or (unpacked p) ((r * m + i) * m + j) false)) (lt-ltb i m hi)
    ∙ ap (λ (b : Bool). b && get_or (unpacked p) ((r * m + i) * m + j) false) (lt-ltb j m hj)
    ∙ ap (λ (x : ℕ). get_or (unpacked p) x false) e
    ∙ get_or-map-range_with_len (bit_at p.words m) 0 (size p) (r * q + t) (r * q + t) false k (omega arith)
    ∙ ap (λ (x : ℕ). bit (get_or p.words x 0) ((r * q + t) % q)) (div-mul-add r q t lt)
    ∙ ap (λ (x : ℕ). bit (get_or p.words r 0) x) (mod-mul-add r q t lt)

-- bits written one a byte
pub length_bits : (p : Picture) → length (bits p) ≡ length p
length_bits [] = refl
length_bits (b ∷ p) = ap suc (length_bits p)

pub get_d_bits : (p : Picture) (k : ℕ) → get_or (bits p) k 0 ≡ cond (get_or p k false) 1 0
get_d_bits [] k = refl
get_d_bits (b ∷ p) zero = refl
get_d_bits (b ∷ p) (suc k) = get_d_bits p k

bit_small : (b : Bool) → cond b 1 0 ≤ 1
bit_small true = omega arith
bit_small false = omega arith

pub bits_small : (p : Picture) (k : ℕ) → get_or (bits p) k 0 ≤ 1
bits_small p k = rw (get_d_bits p k) (bit_small (get_or p k false))

pub length_unpacked : (p : Packed) → length (unpacked p) ≡ size p
length_unpacked p = length-map-range_with_len (bit_at p.words p.shape.size.things) 0 (size p)

pub get_or_unpacked : (p : Packed) (k : ℕ) → k < size p → get_or (unpacked p) k false ≡ bit_at p.words p.shape.size.things k
get_or_unpacked p k h = get_or-map-range_with_len (bit_at p.words p.shape.size.things) 0 (size p) k k false h (omega arith)

-- a word changed at a spot changes the picture's bit there, and no other
module _ (ws : List ℕ) (m place w : ℕ) (change : Bool → Bool → Bool) (still : (b : Bool) → change false b ≡ b) where
  abbrev q : ℕ
  q = m * m

  bit_at_by : (k : ℕ) → place / q < length ws → ((j : ℕ) → bit w j ≡ change (eqb j (place % q)) (bit (get_or ws (place / q) 0) j)) → (k / q ≡ place / q) ⊎ (k / q ≡ place / q → ⊥) → bit_at (set ws (place / q) w) m k ≡ change (eqb k place) (bit_at ws m k)
  bit_at_by k l f (inl e) =
      let a = div-add-mod' k q in let b = div-add-mod' place q in
      let c : (k / q) * q ≡ (place / q) * q = ap (λ (x : ℕ). x * q) e in
      let same : eqb (k % q) (place % q) ≡ eqb k place = same_truth _ _ (λ t. let h = eqb-true _ _ t in eq-eqb k place (omega arith)) (λ t. let h = eqb-true _ _ t in eq-eqb _ _ (ap (λ (x : ℕ). x % q) h)) in
      ap (λ (x : ℕ). bit (get_or (set ws (place / q) w) x 0) (k % q)) e
      ∙ ap (λ (x : ℕ). bit x (k % q)) (get_or-set_same ws (place / q) w 0 l)
      ∙ f (k % q)
      ∙ ap (λ (x : Bool). change x (bit (get_or ws (place / q) 0) (k % q))) same
      ∙ ap (λ (x : ℕ). change (eqb k place) (bit (get_or ws x 0) (k % q))) (sym e)
  bit_at_by k l f (inr ne) =
      let apart : eqb k place ≡ false = ne_eqb k place (λ e. ne (ap (λ (x : ℕ). x / q) e)) in
      ap (λ (x : ℕ). bit x (k % q)) (get_or-set_other ws (place / q) (k / q) w 0 ne)
      ∙ sym (still (bit_at ws m k)) ∙ ap (λ (x : Bool). change x (bit_at ws m k)) (sym apart)

  pub bit_at_changed : (k : ℕ) → place / q < length ws → ((j : ℕ) → bit w j ≡ change (eqb j (place % q)) (bit (get_or ws (place / q) 0) j)) → bit_at (set ws (place / q) w) m k ≡ change (eqb k place) (bit_at ws m k)
  bit_at_changed k l f = bit_at_by k l f (cases_eq (k / q) (place / q))

-- bytes that a picture's bits are written into up to a place
abbrev pub Writing : Packed → List ℕ → ℕ → Type 0
Writing p xs at = (k : ℕ) → k < at → get_or xs k 0 ≡ cond (bit_at p.words p.shape.size.things k) 1 0

pub writing_all : (p : Packed) (o xs : List ℕ) (n at : ℕ) → n ≡ size p → length xs ≡ n → n ≤ at → Writing p xs at → Unpacks p o (xs ++ drop n o)
writing_all p o xs n at e l le w =
    let same : xs ≡ bits (unpacked p) =
    ext_get_or 0 xs (bits (unpacked p)) (l ∙ e ∙ sym (length_bits (unpacked p) ∙ length_unpacked p))
    (λ k h. w k (omega arith) ∙ sym (get_d_bits (unpacked p) k ∙ ap (λ (b : Bool). cond b 1 0) (get_or_unpacked p k (omega arith)))) in
    let f : size p ≡ length xs = sym (l ∙ e) in
    record {
      first = ap (λ (x : ℕ). take x (xs ++ drop n o)) f ∙ take-append_seam xs (drop n o) ∙ same;
      rest = ap (λ (x : ℕ). drop x (xs ++ drop n o)) f ∙ drop-append_seam xs (drop n o) ∙ ap (λ (x : ℕ). drop x o) e;
    }

-- a picture that has been read up to a place
pub record Reading (n m : ℕ) (s ws : List ℕ) (at : ℕ) : Type 0 where
  pub long : length ws ≡ 8
  pub neat : (k : ℕ) → k < at → get_or s k 0 ≤ 1
  pub done : (k : ℕ) → k < at → bit_at ws m k ≡ eqb (get_or s k 0) 1
  pub blank : (k : ℕ) → at ≤ k → bit_at ws m k ≡ false

abbrev pub no_words : List ℕ
no_words = 0 ∷ 0 ∷ 0 ∷ 0 ∷ 0 ∷ 0 ∷ 0 ∷ 0 ∷ []

zeros : (x : ℕ) → get_or no_words x 0 ≡ 0
zeros zero = refl
zeros (suc zero) = refl
zeros (suc (suc zero)) = refl
zeros (suc (suc (suc zero))) = refl
zeros (suc (suc (suc (suc zero)))) = refl
zeros (suc (suc (suc (suc (suc zero))))) = refl
zeros (suc (suc (suc (suc (suc (suc zero)))))) = refl
zeros (suc (suc (suc (suc (suc (suc (suc zero))))))) = refl
zeros (suc (suc (suc (suc (suc (suc (suc (suc x)))))))) = refl

pub bit_at_zeros : (m k : ℕ) → bit_at no_words m k ≡ false
bit_at_zeros m k = ap (λ (x : ℕ). bit x (k % (m * m))) (zeros (k / (m * m))) ∙ bit_zero (k % (m * m))

pub reading_none : (n m : ℕ) (s : List ℕ) → Reading n m s no_words 0
reading_none n m s = record { long = refl; neat = λ k h. absurd (omega arith); done = λ k h. absurd (omega arith); blank = λ k h. bit_at_zeros m k }

pub reading_more : (n m : ℕ) (s ws : List ℕ) (at w : ℕ) (spot : Spot) → n ≤ 8 → SpotAt n at m spot → get_or s at 0 ≤ 1 → ((j : ℕ) → bit w j ≡ ((eqb j spot.place && eqb (get_or s at 0) 1) || bit (get_or ws spot.relation 0) j)) → Reading n m s ws at → Reading n m s (set ws spot.relation w) (at + 1)
reading_more n m s ws at w spot few here small f r =
    let b : Bool = eqb (get_or s at 0) 1 in
    let f' : (j : ℕ) → bit w j ≡ ((eqb j (at % (m * m)) && b) || bit (get_or ws (at / (m * m)) 0) j) = λ j. f j ∙ ap (λ (x : ℕ). (eqb j x && b) || bit (get_or ws spot.relation 0) j) here.place ∙ ap (λ (x : ℕ). (eqb j (at % (m * m)) && b) || bit (get_or ws x 0) j) here.relation in
    let inside : at / (m * m) < length ws = let a = here.known in let e = here.relation in let l = r.long in omega arith in
    let each : (k : ℕ) → bit_at (set ws spot.relation w) m k ≡ ((eqb k at && b) || bit_at ws m k) = λ k. ap (λ (x : ℕ). bit_at (set ws x w) m k) here.relation ∙ bit_at_changed ws m at w (λ e o. (e && b) || o) (λ o. refl) k inside f' in
    record {
      long = length-set ws spot.relation w ∙ r.long;
      neat = below_more _ _ r.neat small;
      done = below_more _ _ (λ k h. each k ∙ ap (λ (x : Bool). (x && b) || bit_at ws m k) (ne_eqb k at (omega arith)) ∙ r.done k h) (each at ∙ ap (λ (x : Bool). (x && b) || bit_at ws m at) (eq-eqb at at refl) ∙ ap (λ (x : Bool). (true && b) || x) (r.blank at (omega arith)) ∙ or-false b);
      blank = λ k h. each k ∙ ap (λ (x : Bool). (x && b) || bit_at ws m k) (ne_eqb k at (omega arith)) ∙ r.blank k (omega arith);
    }

bit_is : (x : ℕ) → x ≤ 1 → x ≡ cond (eqb x 1) 1 0
bit_is zero h = refl
bit_is (suc zero) h = refl
bit_is (suc (suc x)) h = absurd (omega arith)

pub reading_all : (z : Shape) (n m : ℕ) → z.relations ≡ n → z.size.things ≡ m → (s ws : List ℕ) (at : ℕ) → at ≡ z.relations * (z.size.things * z.size.things) → length s ≡ at → (long : length ws ≡ 8) → Reading z.relations z.size.things s ws at → Packs n m s (record { words = ws; shape = z; long = long })
reading_all z n m is_n is_m s ws at e l long r =
    let p : Packed = record { words = ws; shape = z; long = long } in
    record {
      relations = is_n;
      things = is_m;
      bytes =
          ext_get_or 0 s (bits (unpacked p)) (l ∙ e ∙ sym (length_bits (unpacked p) ∙ length_unpacked p))
          (λ k h. bit_is (get_or s k 0) (r.neat k (omega arith)) ∙ ap (λ (b : Bool). cond b 1 0) (sym (get_or_unpacked p k (omega arith) ∙ r.done k (omega arith))) ∙ sym (get_d_bits (unpacked p) k));
    }

-- From a sentence that fills the bytes to a description.
use Rattle.std.proofs.Common.{◌≡◌, ℕ, ◌-◌, ◌≤◌, true, List, [], ◌∷◌, ◌++◌, length, drop, sym, ap, ◌∙◌, subst, arith}
use Rattle.std.proofs.lemmas.List.{append-nil, length-drop, drop_all}
use Rattle.descriptions.specs.Meaning.{Sentence, Description}
use Rattle.descriptions.specs.Bytes.{write_s, fine_s, Reads}
use Rattle.descriptions.specs.Reading.{Stands, Absent}
use Rattle.descriptions.proofs.Unique.{unique_s, head_same, tail_same}

-- the bytes after the first are the sentence's
pub sentence_bytes : (s : List ℕ) (n : ℕ) (d : Description) → s ≡ n ∷ drop 1 s → Reads s d → (d.relations ≡ n) × (drop 1 s ≡ write_s d.sentence ++ []) × (fine_s n 0 d.sentence ≡ true)
sentence_bytes s n d e r =
    let q = sym r.written ∙ e in
    let c = head_same d.relations n _ _ q in
    (c, sym (append-nil (write_s d.sentence) ∙ tail_same d.relations n _ _ q), subst (λ (x : ℕ). fine_s x 0 d.sentence ≡ true) c r.fine)

module _ (s : List ℕ) (n : ℕ) (first : s ≡ n ∷ drop 1 s) where
  pub no_sentence_there : (N : Sentence → Type 0) → ((c : Sentence) → N c → ⊥) → Absent write_s (fine_s n 0) s 1 N → (d : Description) → Reads s d → ⊥
  no_sentence_there N never f d r = let q = sentence_bytes s n d first r in never d.sentence (f d.sentence [] q.2 q.1)

  pub not_whole : (end : ℕ) (P : Sentence → Type 0) → Stands write_s (fine_s n 0) s 1 end P → (end ≡ length s → ⊥) → (d : Description) → Reads s d → ⊥
  not_whole end P f ne d r =
      let q = sentence_bytes s n d first r in
      let t = (unique_s f.part d.sentence (drop end s) [] (sym f.written ∙ q.1)).1 in
      let k : length s - end ≡ 0 = sym (length-drop end s) ∙ ap length t in
      ne (omega (arith, f.inside, k))

  pub whole : (end : ℕ) (P : Sentence → Type 0) → 1 ≤ n → n ≤ 8 → length s ≤ 512 → (f : Stands write_s (fine_s n 0) s 1 end P) → end ≡ length s → Reads s (record { relations = n; sentence = f.part })
  whole end P n1 n8 s512 f q =
      let gone : drop end s ≡ [] = ap (λ (x : ℕ). drop x s) q ∙ drop_all (length s) s (omega arith) in
      record { written = first ∙ ap (λ (x : List ℕ). n ∷ x) (f.written ∙ ap (λ (x : List ℕ). write_s f.part ++ x) gone ∙ append-nil (write_s f.part)); some = n1; few = n8; short = s512; fine = f.is_fine }

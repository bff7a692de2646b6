-- Worked examples, as theorems about the definitions.
use Rattle.std.specs.Prelude.{◌≡◌, true, false, [], ◌∷◌, length}
use Rattle.descriptions.specs.declared.Unary.TheVariants.{Closure, Domain}
use Rattle.descriptions.specs.declared.Binary.TheVariants.{Intersection}
use Rattle.descriptions.specs.Pictures.{Picture}
use Rattle.descriptions.specs.Meaning.{named, identity, unary, binary, Sentence, within, nonempty, negation, both, Description, of}
use Rattle.descriptions.specs.Bytes.{Reads}

-- the way round: relation 0 leads every thing somewhere, none to itself, and each back to itself in some number of steps
abbrev pub way_round : Sentence
way_round = both (within identity (unary Domain (named 0))) (both (negation (nonempty (binary Intersection (named 0) identity))) (within identity (unary Closure (named 0))))

abbrev pub round : Description
round = record { relations = 1; sentence = way_round }

-- the same, and that there is some thing at all
abbrev pub round_some : Description
round_some = record { relations = 1; sentence = both way_round (nonempty identity) }

pub record WorkedExamples : Type 0 where
  pub bytes : Reads (1 ∷ 23 ∷ 20 ∷ 2 ∷ 10 ∷ 0 ∷ 0 ∷ 23 ∷ 22 ∷ 21 ∷ 5 ∷ 0 ∷ 0 ∷ 2 ∷ 20 ∷ 2 ∷ 9 ∷ 0 ∷ 0 ∷ []) round
  pub of_no_things : of round 0 [] ≡ true
  pub none_of_one : (p : Picture) → length p ≡ 1 → of round 1 p ≡ false
  pub two_things : of round_some 2 (false ∷ true ∷ true ∷ false ∷ []) ≡ true
  pub some_none_of_one : (p : Picture) → length p ≡ 1 → of round_some 1 p ≡ false

-- Descriptions: expressions of the calculus of relations, sentences about them, and when a picture is of a description.
use Rattle.std.specs.Prelude.{ℕ, zero, suc, Bool, false, not, ◌&&◌, ◌||◌, List, [], ◌∷◌, ◌==◌, nat_lt}
use Rattle.descriptions.specs.declared.Unary.{Unary}
use Rattle.descriptions.specs.declared.Unary.TheVariants.{Converse, Closure, Domain}
use Rattle.descriptions.specs.declared.Binary.{Binary}
use Rattle.descriptions.specs.declared.Binary.TheVariants.{Union, Intersection, Difference, Composition}
use Rattle.descriptions.specs.Pictures.{Relation, any, every, compose, reach, Picture, relation_of}

-- expressions: a relation by its number; a thing spoken of, as itself with itself; all things, each with itself; nothing; and what operators make of others
pub data Expression : Type 0 where
  named : ℕ → Expression
  thing : ℕ → Expression
  identity : Expression
  empty : Expression
  unary : Unary → Expression → Expression
  binary : Binary → Expression → Expression → Expression

-- sentences: one relation is within another; some pair stands in a relation; not; both; for every thing, which the sentence inside may speak of
pub data Sentence : Type 0 where
  within : Expression → Expression → Sentence
  nonempty : Expression → Sentence
  negation : Sentence → Sentence
  both : Sentence → Sentence → Sentence
  for_every : Sentence → Sentence

-- turned round; once or more often, which takes no more than m steps more; what stands first in a pair, with itself
abbrev pub transform : Unary → ℕ → Relation → Relation
transform Converse m r i j = r j i
transform Closure m r i j = reach m m r i j
transform Domain m r i j = i == j && any m (λ k. r i k)

-- or; and; but not; one after the other
abbrev pub combine : Binary → ℕ → Relation → Relation → Relation
combine Union m r s i j = r i j || s i j
combine Intersection m r s i j = r i j && s i j
combine Difference m r s i j = r i j && not (s i j)
combine Composition m r s i j = compose m r s i j

-- the things spoken of, the newest first: a number names one by how many newer ones there are
abbrev pub spoken : List ℕ → ℕ → ℕ
spoken [] x = 0
spoken (i ∷ v) zero = i
spoken (i ∷ v) (suc x) = spoken v x

-- the relation that an expression stands for in a picture p of m things, with v the things spoken of
abbrev pub value : ℕ → Picture → List ℕ → Expression → Relation
value m p v (named r) i j = relation_of m p r i j
value m p v (thing x) i j = i == spoken v x && j == spoken v x
value m p v identity i j = nat_lt i m && i == j
value m p v empty i j = false
value m p v (unary o a) i j = transform o m (value m p v a) i j
value m p v (binary o a b) i j = combine o m (value m p v a) (value m p v b) i j

-- whether a sentence holds there
abbrev pub holds : ℕ → Picture → List ℕ → Sentence → Bool
holds m p v (within a b) = every m (λ i. every m (λ j. not (value m p v a i j) || value m p v b i j))
holds m p v (nonempty a) = any m (λ i. any m (λ j. value m p v a i j))
holds m p v (negation c) = not (holds m p v c)
holds m p v (both c d) = holds m p v c && holds m p v d
holds m p v (for_every c) = every m (λ i. holds m p (i ∷ v) c)

-- a description: how many relations there are, and a sentence about them
pub record Description : Type 0 where
  pub relations : ℕ
  pub sentence : Sentence

-- whether a picture of m things is of a description, that is, a model of its sentence
abbrev pub of : Description → ℕ → Picture → Bool
of d m p = holds m p [] d.sentence

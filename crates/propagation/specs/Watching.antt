-- Who watches which literal: chains through lent memory, and what is put in front of them.
use Rattle.std.specs.Prelude.{◌≡◌, ℕ, ◌+◌, ◌*◌, min, slice_index, slice_set}
use Rattle.propagation.specs.declared.watches.Watches.{Watches}

-- a node stands first in the chain of a literal, and what stood first there is linked behind it
pub record ChainedFirst (s t : Watches) (at literal node : ℕ) : Type 0 where
  pub heads : t.heads.now ≡ slice_set s.heads.now literal node
  pub links : t.links.now ≡ slice_set s.links.now at (slice_index s.heads.now literal)

-- a clause's node, the first or the second, as far as its number fits a word
abbrev pub node_of : ℕ → ℕ → ℕ
node_of clause k = min (min (clause * 2) 4294967295 + k) 4294967295

-- a clause is watched by two literals: its words name them, and its nodes stand first in their chains
pub record Attached (s t : Watches) (clause one other : ℕ) : Type 0 where
  pub heads : t.heads.now ≡ slice_set (slice_set s.heads.now one (node_of clause 1)) other (node_of clause 2)
  pub links : t.links.now ≡ slice_set (slice_set (slice_set (slice_set s.links.now (4 * clause + 2) one) (4 * clause + 3) other) (4 * clause) (slice_index s.heads.now one)) (4 * clause + 1) (slice_index (slice_set s.heads.now one (node_of clause 1)) other)

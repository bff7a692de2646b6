-- Which bit of a picture a cell of a table shows.
use Rattle.std.specs.Prelude.{ℕ, ◌+◌, ◌*◌, Bool, List, ◌==◌, slice_index}

abbrev pub marked : List ℕ → ℕ → ℕ → ℕ → ℕ → Bool
marked bits m r i j = slice_index bits ((r * m + i) * m + j) == 1

use Rattle.std.proofs.Common.{◌+◌, ◌-◌, ◌*◌, length}
use Rattle.descriptions.proofs.extents.+expressions.Given as goal

-- what is left to read, twice, and one more where no byte is taken first
abbrev pub decreases-expressions_extent : goal.decreases-expressions_extent
decreases-expressions_extent l = 2 * (length l.bytes.now - l.at) + 1

abbrev pub decreases-expression_extent : goal.decreases-expression_extent
decreases-expression_extent l = 2 * (length l.bytes.now - l.at)

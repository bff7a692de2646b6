use Rattle.std.proofs.Common.{◌-◌, length}
use Rattle.descriptions.proofs.extents.+sentence_extent.Given as goal

-- what is left to read
abbrev pub decreases-sentence_extent : goal.decreases-sentence_extent
decreases-sentence_extent l = length l.bytes.now - l.at

use Rattle.std.proofs.Common.{◌+◌, ◌-◌, ◌*◌, length}
use Rattle.encoder.proofs.encoding.Encoder.+tables.Given as goal

-- what is left to read, twice, and one more where no byte is taken first
abbrev pub decreases-expression : goal.decreases-expression
decreases-expression l = 2 * (length l.self.now.bytes.now - l.at)

abbrev pub decreases-pair : goal.decreases-pair
decreases-pair l = 2 * (length l.self.now.bytes.now - l.at) + 1

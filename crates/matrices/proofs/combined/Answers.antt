use Rattle.std.proofs.Common.{◌+◌, ◌*◌, arith}
use Rattle.matrices.proofs.Bits.{bit_of_or, bit_of_and, bit_but}
use Rattle.matrices.proofs.Fill.{square, place_below}
use Rattle.matrices.proofs.combined.Goals as goal

pub returns-in-Union : goal.returns-in-Union
returns-in-Union c = rw c.in-Union.is (λ i j hi hj. bit_of_or c.args.one c.args.other (i * c.args.size.things + j))

pub returns-in-Intersection : goal.returns-in-Intersection
returns-in-Intersection c = rw c.in-Intersection.is (λ i j hi hj. bit_of_and c.args.one c.args.other (i * c.args.size.things + j))

pub returns-in-Difference : goal.returns-in-Difference
returns-in-Difference c = rw c.in-Difference.is (λ i j hi hj. bit_but c.args.one c.args.other (i * c.args.size.things + j) (omega (arith, c.ranges.other)) (omega (arith, square c.args.size.things c.args.size.few, place_below c.args.size.things i j hi hj)))

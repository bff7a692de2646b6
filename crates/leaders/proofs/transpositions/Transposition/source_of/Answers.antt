use Rattle.firsts.specs.Leaders.{swap}
use Rattle.leaders.proofs.Bounds.{source_is}
use Rattle.leaders.proofs.transpositions.Transposition.source_of.Goals as goal

pub returns : goal.returns
returns c = source_is c.args.shape.relations c.args.place _ _ _ c.spot_at-spot.ensures c.pair_at-pair.ensures (swap c.args.self.one c.args.self.other) _ _ _ _ c.of-first.ensures.is c.of-second.ensures.is c.pairs.ensures.0 c.place_of.ensures.0

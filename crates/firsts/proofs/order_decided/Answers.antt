use Rattle.firsts.proofs.Order.{order_decided}
use Rattle.firsts.proofs.order_decided.Goals as goal

pub returns : goal.returns
returns c = order_decided

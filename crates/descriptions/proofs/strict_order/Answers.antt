use Rattle.descriptions.proofs.Order as order
use Rattle.descriptions.proofs.strict_order.Goals as goal

pub returns : goal.returns
returns c = order.strict_order

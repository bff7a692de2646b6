use Rattle.leaders.proofs.Leading.{chain_leads}
use Rattle.leaders.proofs.lead_by.Goals as goal

pub returns-then-allow : goal.returns-then-allow
returns-then-allow c =
    let room = c.allow.ensures.room c.if-allow.true in
    rw c.is_some.ensures (chain_leads _ _ _ _ _ _ _ _ _ c.args.swap.apart c.requires.inside room.0 room.1 c.chain.ensures)

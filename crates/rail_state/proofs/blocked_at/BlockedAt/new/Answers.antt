use Rattle.rail_state.proofs.Blocked.{none_blocked}
use Rattle.rail_state.proofs.blocked_at.BlockedAt.new.Goals as goal

pub returns : goal.returns
returns c = none_blocked c.in_ok-copies.field-0.items 512 c.none.result c.none.ensures c.in_ok-copies.ensures.rows

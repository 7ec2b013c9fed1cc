use Rattle.rail_laws_events.proofs.HoldLines.{holds_bounded}
use Rattle.rail_laws_events.proofs.bound.a_train_has_at_most_so_many_hold_lines.Goals as goal

pub returns : goal.returns
returns c = holds_bounded

use Rattle.rail_laws_events.proofs.Changing.{other_change}
use Rattle.rail_laws_events.proofs.account.other_lines_leave_what_is_to_come.Goals as goal

pub returns : goal.returns
returns c = other_change

use Rattle.rail_laws_events.proofs.Changing.{train_event_change}
use Rattle.rail_laws_events.proofs.account.an_event_line_is_no_longer_to_come.Goals as goal

pub returns : goal.returns
returns c = train_event_change

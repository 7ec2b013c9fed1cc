use Rattle.rail_laws_events.proofs.Balance.{account}
use Rattle.rail_laws_events.proofs.account.the_account_of_event_lines.Goals as goal

pub returns : goal.returns
returns c = account

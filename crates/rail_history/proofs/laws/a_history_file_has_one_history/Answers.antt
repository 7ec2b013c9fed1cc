use Rattle.rail_history.proofs.OneHistory.{one_history}
use Rattle.rail_history.proofs.laws.a_history_file_has_one_history.Goals as goal

pub returns : goal.returns
returns c = one_history

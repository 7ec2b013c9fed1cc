use Rattle.rail_history.proofs.OneHistory.{one_wrong}
use Rattle.rail_history.proofs.laws.a_file_has_one_first_wrong_line.Goals as goal

pub returns : goal.returns
returns c = one_wrong

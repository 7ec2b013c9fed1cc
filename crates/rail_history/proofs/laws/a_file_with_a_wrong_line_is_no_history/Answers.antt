use Rattle.rail_history.proofs.OneHistory.{no_history}
use Rattle.rail_history.proofs.laws.a_file_with_a_wrong_line_is_no_history.Goals as goal

pub returns : goal.returns
returns c = no_history

use Rattle.rail_history.proofs.OneHistory.{no_third}
use Rattle.rail_history.proofs.laws.a_file_is_a_history_or_has_a_first_wrong_line.Goals as goal

pub returns : goal.returns
returns c = no_third

use Rattle.rail_laws_end.proofs.Ending.{complete_bound}
use Rattle.rail_laws_end.proofs.completion.a_history_of_trains_that_all_leave_has_so_many_lines.Goals as goal

pub returns : goal.returns
returns c = complete_bound

use Rattle.rail_check.proofs.Printed.{printed}
use Rattle.rail_check.proofs.laws.a_printed_run_is_answered_yes.Goals as goal

pub returns : goal.returns
returns c = printed

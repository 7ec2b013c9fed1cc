use Rattle.rail_top.proofs.PrintedRuns.{checked_with_yes}
use Rattle.rail_top.proofs.laws.a_printed_run_is_checked_with_yes.Goals as goal

pub returns : goal.returns
returns c = checked_with_yes

use Rattle.rail_top.proofs.PrintedRuns.{saved_resumed_by_forms}
use Rattle.rail_top.proofs.laws.a_saved_run_is_resumed.Goals as goal

pub returns : goal.returns
returns c = saved_resumed_by_forms

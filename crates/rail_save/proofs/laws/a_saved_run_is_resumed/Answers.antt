use Rattle.rail_save.proofs.Snapshots.{saved_resumed}
use Rattle.rail_save.proofs.laws.a_saved_run_is_resumed.Goals as goal

pub returns : goal.returns
returns c = saved_resumed

use Rattle.rail_save.proofs.Snapshots.{one_snapshot}
use Rattle.rail_save.proofs.laws.a_snapshot_has_one_list_of_lines.Goals as goal

pub returns : goal.returns
returns c = one_snapshot

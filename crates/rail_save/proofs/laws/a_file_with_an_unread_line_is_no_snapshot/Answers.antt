use Rattle.rail_save.proofs.Snapshots.{no_snapshot, one_unread}
use Rattle.rail_save.proofs.laws.a_file_with_an_unread_line_is_no_snapshot.Goals as goal

pub returns : goal.returns
returns c = record { none = no_snapshot; one = one_unread }

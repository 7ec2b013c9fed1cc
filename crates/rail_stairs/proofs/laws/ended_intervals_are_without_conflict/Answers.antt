use Rattle.rail_stairs.proofs.Conflicts.{conflict_free}
use Rattle.rail_stairs.proofs.laws.ended_intervals_are_without_conflict.Goals as goal

pub returns : goal.returns
returns c = conflict_free

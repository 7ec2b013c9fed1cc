use Rattle.rail_stairs.proofs.Ending.{disjoint_at_end}
use Rattle.rail_stairs.proofs.laws.ended_intervals_never_overlap.Goals as goal

pub returns : goal.returns
returns c = disjoint_at_end

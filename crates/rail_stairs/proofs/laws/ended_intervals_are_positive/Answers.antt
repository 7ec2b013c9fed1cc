use Rattle.rail_stairs.proofs.Ending.{positive_at_end}
use Rattle.rail_stairs.proofs.laws.ended_intervals_are_positive.Goals as goal

pub returns : goal.returns
returns c = positive_at_end

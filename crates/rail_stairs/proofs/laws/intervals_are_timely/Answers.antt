use Rattle.rail_stairs.proofs.TimelyIntervals.{all_timely}
use Rattle.rail_stairs.proofs.laws.intervals_are_timely.Goals as goal

pub returns : goal.returns
returns c = all_timely

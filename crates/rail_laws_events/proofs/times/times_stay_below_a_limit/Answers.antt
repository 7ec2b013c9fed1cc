use Rattle.rail_laws_events.proofs.Reached.{times_below}
use Rattle.rail_laws_events.proofs.times.times_stay_below_a_limit.Goals as goal

pub returns : goal.returns
returns c = times_below

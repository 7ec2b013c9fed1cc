use Rattle.rail_laws_front.proofs.Timely.{times_rise}
use Rattle.rail_laws_front.proofs.invariant.times_do_not_fall.Goals as goal

pub returns : goal.returns
returns c = times_rise

use Rattle.rail_laws_front.proofs.Timely.{timely}
use Rattle.rail_laws_front.proofs.invariant.no_line_is_ever_late.Goals as goal

pub returns : goal.returns
returns c = timely

use Rattle.rail_laws_front.proofs.Due.{are_standing}
use Rattle.rail_laws_front.proofs.invariant.open_intervals_are_the_standing_sets.Goals as goal

pub returns : goal.returns
returns c = are_standing

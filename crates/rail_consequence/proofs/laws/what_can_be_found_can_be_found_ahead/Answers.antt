use Rattle.rail_consequence.proofs.Safe.{found_ahead}
use Rattle.rail_consequence.proofs.laws.what_can_be_found_can_be_found_ahead.Goals as goal

pub returns : goal.returns
returns c = found_ahead

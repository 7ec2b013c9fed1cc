use Rattle.rail_consequence.proofs.Safe.{found_without}
use Rattle.rail_consequence.proofs.laws.what_can_be_found_can_be_found_without_a_train.Goals as goal

pub returns : goal.returns
returns c = found_without

use Rattle.rail_rules.proofs.Parts.{in_order}
use Rattle.rail_rules.proofs.laws.the_parts_of_an_interval_are_in_order.Goals as goal

pub returns : goal.returns
returns c = in_order

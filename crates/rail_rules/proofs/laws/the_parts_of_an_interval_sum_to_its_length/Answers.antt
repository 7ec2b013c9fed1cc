use Rattle.rail_rules.proofs.Parts.{parts_sum_is}
use Rattle.rail_rules.proofs.laws.the_parts_of_an_interval_sum_to_its_length.Goals as goal

pub returns : goal.returns
returns c = parts_sum_is

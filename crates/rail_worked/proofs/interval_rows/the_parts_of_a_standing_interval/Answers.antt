use Rattle.std.proofs.Common.{refl}
use Rattle.rail_worked.proofs.interval_rows.the_parts_of_a_standing_interval.Goals as goal

pub returns : goal.returns
returns c = refl

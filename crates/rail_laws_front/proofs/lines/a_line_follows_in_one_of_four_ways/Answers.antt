use Rattle.rail_laws_front.proofs.Viewing.{viewed}
use Rattle.rail_laws_front.proofs.lines.a_line_follows_in_one_of_four_ways.Goals as goal

pub returns : goal.returns
returns c = viewed

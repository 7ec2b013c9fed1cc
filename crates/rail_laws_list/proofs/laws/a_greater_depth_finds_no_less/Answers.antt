use Rattle.rail_laws_list.proofs.Depths.{deeper}
use Rattle.rail_laws_list.proofs.laws.a_greater_depth_finds_no_less.Goals as goal

pub returns : goal.returns
returns c = deeper

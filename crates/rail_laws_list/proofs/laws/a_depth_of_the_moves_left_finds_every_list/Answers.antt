use Rattle.rail_laws_list.proofs.Depths.{found_by_any}
use Rattle.rail_laws_list.proofs.laws.a_depth_of_the_moves_left_finds_every_list.Goals as goal

pub returns : goal.returns
returns c = found_by_any

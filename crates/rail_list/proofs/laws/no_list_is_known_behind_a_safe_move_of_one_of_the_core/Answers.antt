use Rattle.rail_list.proofs.Unfound.{unknown_behind_safe}
use Rattle.rail_list.proofs.laws.no_list_is_known_behind_a_safe_move_of_one_of_the_core.Goals as goal

pub returns : goal.returns
returns c = unknown_behind_safe

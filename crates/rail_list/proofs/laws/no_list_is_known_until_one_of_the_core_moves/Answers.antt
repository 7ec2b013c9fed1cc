use Rattle.rail_list.proofs.Unfound.{unknown_behind}
use Rattle.rail_list.proofs.laws.no_list_is_known_until_one_of_the_core_moves.Goals as goal

pub returns : goal.returns
returns c = unknown_behind

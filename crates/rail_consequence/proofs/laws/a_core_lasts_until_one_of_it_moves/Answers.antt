use Rattle.rail_consequence.proofs.Cores.{core_behind}
use Rattle.rail_consequence.proofs.laws.a_core_lasts_until_one_of_it_moves.Goals as goal

pub returns : goal.returns
returns c = core_behind

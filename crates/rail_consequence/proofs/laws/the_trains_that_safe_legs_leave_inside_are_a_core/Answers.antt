use Rattle.rail_consequence.proofs.Cores.{core_of_legs}
use Rattle.rail_consequence.proofs.laws.the_trains_that_safe_legs_leave_inside_are_a_core.Goals as goal

pub returns : goal.returns
returns c = core_of_legs

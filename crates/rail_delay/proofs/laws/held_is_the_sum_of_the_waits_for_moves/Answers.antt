use Rattle.rail_laws_front.proofs.CallerLemmas.{well_formed_from_accepted}
use Rattle.rail_delay.proofs.MoveWaits.{held_for_moves}
use Rattle.rail_delay.proofs.laws.held_is_the_sum_of_the_waits_for_moves.Goals as goal

pub returns : goal.returns
returns c = λ input accepted front lawful t known. held_for_moves input (well_formed_from_accepted input.plant accepted) front lawful t known

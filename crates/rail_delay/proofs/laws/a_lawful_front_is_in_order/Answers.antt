use Rattle.rail_laws_front.proofs.CallerLemmas.{well_formed_from_accepted}
use Rattle.rail_delay.proofs.Stories.{in_order}
use Rattle.rail_delay.proofs.laws.a_lawful_front_is_in_order.Goals as goal

pub returns : goal.returns
returns c = λ input accepted front lawful. in_order input (well_formed_from_accepted input.plant accepted) front lawful

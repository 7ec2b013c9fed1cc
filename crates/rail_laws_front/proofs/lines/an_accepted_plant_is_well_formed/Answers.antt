use Rattle.rail_laws_front.proofs.Accepting.{well_formed_from_accepted}
use Rattle.rail_laws_front.proofs.lines.an_accepted_plant_is_well_formed.Goals as goal

pub returns : goal.returns
returns c = well_formed_from_accepted

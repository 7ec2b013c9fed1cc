use Rattle.rail_laws_front.proofs.PlacesKept.{kept_completes}
use Rattle.rail_laws_front.proofs.invariant.the_places_are_valid.Goals as goal

pub returns : goal.returns
returns c = λ input fine front lawful. (kept_completes input fine front lawful).valid

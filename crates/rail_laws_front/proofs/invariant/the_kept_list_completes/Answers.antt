use Rattle.rail_laws_front.proofs.PlacesKept.{kept_completes}
use Rattle.rail_laws_front.proofs.invariant.the_kept_list_completes.Goals as goal

pub returns : goal.returns
returns c = λ input fine front lawful. (kept_completes input fine front lawful).completing

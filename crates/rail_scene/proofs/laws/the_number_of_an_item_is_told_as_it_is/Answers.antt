use Rattle.rail_scene.proofs.ItemNumbers.{told_number}
use Rattle.rail_scene.proofs.laws.the_number_of_an_item_is_told_as_it_is.Goals as goal

pub returns : goal.returns
returns c = told_number

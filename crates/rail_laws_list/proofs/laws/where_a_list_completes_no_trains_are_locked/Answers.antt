use Rattle.rail_laws_list.proofs.Unlocked.{none_locked}
use Rattle.rail_laws_list.proofs.laws.where_a_list_completes_no_trains_are_locked.Goals as goal

pub returns : goal.returns
returns c = none_locked

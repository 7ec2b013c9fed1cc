use Rattle.rail_list.proofs.Appending.{appended_where_safe}
use Rattle.rail_list.proofs.laws.an_appended_list_completes_exactly_where_the_train_entered_safely.Goals as goal

pub returns : goal.returns
returns c = appended_where_safe

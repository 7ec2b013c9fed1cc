use Rattle.rail_list.proofs.Turns.{pulled_where_free}
use Rattle.rail_list.proofs.laws.a_pulled_list_completes_exactly_where_no_earlier_entry_needs_what_the_train_stands_on.Goals as goal

pub returns : goal.returns
returns c = λ plan s list t inside done. pulled_where_free plan s list t done inside

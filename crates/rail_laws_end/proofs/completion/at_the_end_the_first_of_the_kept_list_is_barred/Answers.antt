use Rattle.rail_laws_end.proofs.Barred.{empty_barred, empty_nobody, first_barred}
use Rattle.rail_laws_end.proofs.completion.at_the_end_the_first_of_the_kept_list_is_barred.Goals as goal

pub returns : goal.returns
returns c = record { head = first_barred; nobody = empty_nobody; each = empty_barred }

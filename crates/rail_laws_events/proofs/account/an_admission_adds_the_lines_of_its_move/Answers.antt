use Rattle.rail_laws_events.proofs.Changing.{admission_change}
use Rattle.rail_laws_events.proofs.account.an_admission_adds_the_lines_of_its_move.Goals as goal

pub returns : goal.returns
returns c = admission_change

use Rattle.rail_laws_end.proofs.Progress.{has_next}
use Rattle.rail_laws_end.proofs.continuation.a_front_that_has_not_ended_has_a_next_line.Goals as goal

pub returns : goal.returns
returns c = has_next

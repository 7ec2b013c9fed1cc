use Rattle.rail_laws_front.proofs.Due.{ready_stands_or_due}
use Rattle.rail_laws_front.proofs.invariant.ready_lines_stand_or_are_due.Goals as goal

pub returns : goal.returns
returns c = ready_stands_or_due

use Rattle.rail_laws_front.proofs.Due.{admission_adds}
use Rattle.rail_laws_front.proofs.invariant.an_admission_adds_only_its_next_ready_line_at_once.Goals as goal

pub returns : goal.returns
returns c = admission_adds

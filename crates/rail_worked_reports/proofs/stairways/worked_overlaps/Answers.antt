use Rattle.std.proofs.Common.{refl}
use Rattle.std.specs.Fmt.{digits}
use Rattle.rail_worked_reports.proofs.stairways.worked_overlaps.Goals as goal

pub returns-clause-taken_over : goal.returns-clause-taken_over
unfolding digits
returns-clause-taken_over c = refl

pub returns-clause-timed : goal.returns-clause-timed
unfolding digits
returns-clause-timed c = refl

pub returns-clause-at_once : goal.returns-clause-at_once
unfolding digits
returns-clause-at_once c = refl

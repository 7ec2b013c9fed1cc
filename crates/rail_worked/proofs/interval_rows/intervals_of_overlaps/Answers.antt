use Rattle.std.proofs.Common.{refl}
use Rattle.rail_worked.proofs.interval_rows.intervals_of_overlaps.Goals as goal

pub returns-clause-taken_over : goal.returns-clause-taken_over
returns-clause-taken_over c = refl

pub returns-clause-timed : goal.returns-clause-timed
returns-clause-timed c = refl

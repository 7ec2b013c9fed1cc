use Rattle.std.proofs.Common.{refl}
use Rattle.std.specs.Fmt.{digits}
use Rattle.rail_worked_reports.proofs.stairways.worked_stairways.Goals as goal

pub returns-clause-passing : goal.returns-clause-passing
unfolding digits
returns-clause-passing c = refl

pub returns-clause-standing : goal.returns-clause-standing
unfolding digits
returns-clause-standing c = refl

pub returns-clause-turning : goal.returns-clause-turning
unfolding digits
returns-clause-turning c = refl

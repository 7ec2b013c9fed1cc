use Rattle.std.proofs.Common.{refl}
use Rattle.std.specs.Fmt.{digits}
use Rattle.rail_worked_reports.proofs.delays.a_report_of_a_cancelled_train.Goals as goal

pub returns : goal.returns
unfolding digits
returns c = refl

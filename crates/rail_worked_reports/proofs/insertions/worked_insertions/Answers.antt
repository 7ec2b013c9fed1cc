use Rattle.std.proofs.Common.{refl}
use Rattle.std.specs.Fmt.{digits}
use Rattle.rail_worked_reports.proofs.insertions.worked_insertions.Goals as goal

pub returns : goal.returns
unfolding digits
returns c = refl

use Rattle.std.proofs.Common.{refl}
use Rattle.std.specs.Fmt.{digits}
use Rattle.rail_worked.proofs.policies_row.policies_exchanged_and_retired.Goals as goal

pub returns-clause-run : goal.returns-clause-run
returns-clause-run c = refl

pub returns-clause-text : goal.returns-clause-text
unfolding digits
returns-clause-text c = refl

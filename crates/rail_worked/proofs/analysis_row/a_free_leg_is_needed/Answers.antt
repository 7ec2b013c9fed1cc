use Rattle.std.proofs.Common.{refl}
use Rattle.rail_worked.proofs.analysis_row.a_free_leg_is_needed.Goals as goal

pub returns-clause-without : goal.returns-clause-without
returns-clause-without c = refl

pub returns-clause-with_one : goal.returns-clause-with_one
returns-clause-with_one c = refl

use Rattle.std.proofs.Common.{refl}
use Rattle.rail_worked.proofs.overlap_list_row.a_list_over_claims.Goals as goal

pub returns-clause-held : goal.returns-clause-held
returns-clause-held c = refl

pub returns-clause-first : goal.returns-clause-first
returns-clause-first c = refl

pub returns-clause-second : goal.returns-clause-second
returns-clause-second c = refl

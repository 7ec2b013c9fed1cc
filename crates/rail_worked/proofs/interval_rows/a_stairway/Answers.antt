use Rattle.std.proofs.Common.{refl}
use Rattle.rail_worked.proofs.interval_rows.a_stairway.Goals as goal

pub returns-clause-over_west : goal.returns-clause-over_west
returns-clause-over_west c = refl

pub returns-clause-over_points : goal.returns-clause-over_points
returns-clause-over_points c = refl

pub returns-clause-over_track : goal.returns-clause-over_track
returns-clause-over_track c = refl

pub returns-clause-over_next_points : goal.returns-clause-over_next_points
returns-clause-over_next_points c = refl

pub returns-clause-over_east : goal.returns-clause-over_east
returns-clause-over_east c = refl

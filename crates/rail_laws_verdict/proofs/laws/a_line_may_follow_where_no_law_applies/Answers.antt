use Rattle.rail_laws_verdict.proofs.Broken.{exactly}
use Rattle.rail_laws_verdict.proofs.laws.a_line_may_follow_where_no_law_applies.Goals as goal

pub returns : goal.returns
returns c = exactly

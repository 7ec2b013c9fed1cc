use Rattle.rail_laws_verdict.proofs.Judged.{one_other}
use Rattle.rail_laws_verdict.proofs.laws.one_line_beside_admissions_may_follow.Goals as goal

pub returns : goal.returns
returns c = one_other

use Rattle.rail_laws_verdict.proofs.Judged.{judged}
use Rattle.rail_laws_verdict.proofs.laws.a_history_is_judged.Goals as goal

pub returns : goal.returns
returns c = judged

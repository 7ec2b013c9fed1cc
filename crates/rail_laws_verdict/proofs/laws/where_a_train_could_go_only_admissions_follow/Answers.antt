use Rattle.rail_laws_verdict.proofs.Judged.{only_admissions}
use Rattle.rail_laws_verdict.proofs.laws.where_a_train_could_go_only_admissions_follow.Goals as goal

pub returns : goal.returns
returns c = only_admissions

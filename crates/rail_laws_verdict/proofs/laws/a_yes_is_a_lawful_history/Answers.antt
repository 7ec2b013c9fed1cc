use Rattle.rail_laws_verdict.proofs.Judged.{yes_means}
use Rattle.rail_laws_verdict.proofs.laws.a_yes_is_a_lawful_history.Goals as goal

pub returns : goal.returns
returns c = yes_means

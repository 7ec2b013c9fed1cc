use Rattle.rail_laws_end.proofs.Compared.{one_run}
use Rattle.rail_laws_end.proofs.uniqueness.one_history.Goals as goal

pub returns : goal.returns
returns c = one_run

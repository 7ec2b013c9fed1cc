use Rattle.rail_laws_text.proofs.Limiting.{few_admitted}
use Rattle.rail_laws_text.proofs.lines.a_history_has_at_most_so_many_admissions.Goals as goal

pub returns : goal.returns
returns c = few_admitted

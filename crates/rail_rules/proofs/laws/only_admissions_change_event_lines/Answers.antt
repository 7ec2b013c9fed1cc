use Rattle.rail_rules.proofs.Unchanged.{moved_lines_kept}
use Rattle.rail_rules.proofs.laws.only_admissions_change_event_lines.Goals as goal

pub returns : goal.returns
returns c = moved_lines_kept

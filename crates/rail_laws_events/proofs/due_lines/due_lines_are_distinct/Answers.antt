use Rattle.rail_laws_events.proofs.Once.{due_once}
use Rattle.rail_laws_events.proofs.due_lines.due_lines_are_distinct.Goals as goal

pub returns : goal.returns
returns c = due_once

use Rattle.rail_laws_events.proofs.Bounded.{bounded}
use Rattle.rail_laws_events.proofs.bound.a_history_has_at_most_so_many_lines.Goals as goal

pub returns : goal.returns
returns c = bounded

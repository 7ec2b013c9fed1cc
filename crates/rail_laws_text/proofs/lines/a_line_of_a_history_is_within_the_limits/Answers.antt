use Rattle.rail_laws_text.proofs.Limiting.{line_limited}
use Rattle.rail_laws_text.proofs.lines.a_line_of_a_history_is_within_the_limits.Goals as goal

pub returns : goal.returns
returns c = line_limited

use Rattle.rail_laws_text.proofs.Writing.{line_writable}
use Rattle.rail_laws_text.proofs.lines.a_line_of_a_history_can_be_written.Goals as goal

pub returns : goal.returns
returns c = line_writable

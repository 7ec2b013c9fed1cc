use Rattle.rail_laws_end.proofs.Ending.{complete_names}
use Rattle.rail_laws_end.proofs.completion.the_end_line_names_nobody.Goals as goal

pub returns : goal.returns
returns c = complete_names

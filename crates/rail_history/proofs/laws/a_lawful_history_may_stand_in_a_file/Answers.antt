use Rattle.rail_history.proofs.Lawful.{lawful_lines}
use Rattle.rail_history.proofs.laws.a_lawful_history_may_stand_in_a_file.Goals as goal

pub returns : goal.returns
returns c = lawful_lines

use Rattle.rail_rules.proofs.Counted.{completing_list_counts}
use Rattle.rail_rules.proofs.laws.a_completing_list_counts_the_moves_left.Goals as goal

pub returns : goal.returns
returns c = completing_list_counts

use Rattle.rail_save.proofs.RunLines.{followed}
use Rattle.rail_save.proofs.laws.lines_are_followed_or_one_is_the_first_other.Goals as goal

pub returns : goal.returns
returns c = followed

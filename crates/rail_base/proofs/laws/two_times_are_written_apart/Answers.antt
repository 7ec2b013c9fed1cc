use Rattle.rail_base.proofs.Telling.{time_text-injective}
use Rattle.rail_base.proofs.laws.two_times_are_written_apart.Goals as goal

pub returns : goal.returns
returns c = time_text-injective

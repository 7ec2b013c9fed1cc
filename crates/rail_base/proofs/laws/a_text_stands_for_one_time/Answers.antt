use Rattle.rail_base.proofs.Telling.{lenient_time}
use Rattle.rail_base.proofs.laws.a_text_stands_for_one_time.Goals as goal

pub returns : goal.returns
returns c = lenient_time

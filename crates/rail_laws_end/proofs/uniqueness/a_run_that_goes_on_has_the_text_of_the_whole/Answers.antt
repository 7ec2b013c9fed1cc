use Rattle.rail_laws_end.proofs.Resumed.{one_text}
use Rattle.rail_laws_end.proofs.uniqueness.a_run_that_goes_on_has_the_text_of_the_whole.Goals as goal

pub returns : goal.returns
returns c = one_text

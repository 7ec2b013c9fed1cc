use Rattle.rail_laws_end.proofs.Ending.{complete_out}
use Rattle.rail_laws_end.proofs.completion.at_the_end_every_train_is_out_or_cancelled.Goals as goal

pub returns : goal.returns
returns c = complete_out

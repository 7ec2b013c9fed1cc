use Rattle.rail_laws_end.proofs.Alone.{enters_alone}
use Rattle.rail_laws_end.proofs.completion.with_nobody_inside_an_entering_train_completes_alone.Goals as goal

pub returns : goal.returns
returns c = enters_alone

use Rattle.rail_laws_events.proofs.CallerLemmas.{cancelled_never_goes}
use Rattle.rail_laws_end.proofs.completion.a_cancelled_train_is_never_admitted.Goals as goal

pub returns : goal.returns
returns c = cancelled_never_goes

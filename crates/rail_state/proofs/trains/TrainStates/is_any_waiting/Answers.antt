use Rattle.std.proofs.Common.{sym, ◌∙◌}
use Rattle.rail_state.proofs.Sets.{any_of_next}
use Rattle.rail_state.proofs.trains.TrainStates.is_any_waiting.Goals as goal

pub returns : goal.returns
returns c = λ is. any_of_next c.args.self.now c.next_waiting.result (sym c.is_some.ensures ∙ is) c.next_waiting.ensures

use Rattle.std.proofs.Common.{List, refl, subst}
use Rattle.rail_state.specs.declared.train.TrainState.{TrainState}
use Rattle.rail_state.specs.TrainStates.{IsNextOf}
use Rattle.rail_state.specs.TrainSearches.{is_waiting}
use Rattle.rail_state.proofs.Sets.{found_next}
use Rattle.rail_state.proofs.trains.TrainStates.next_waiting.Goals as goal

pub returns : goal.returns
returns c =
    subst (λ (states : List TrainState). IsNextOf is_waiting states c.args.number c.first_from.result) c.self.view_is
    (found_next is_waiting c.self.inside.rows.items c.self.inside.sets.waiting c.args.number c.first_from.result refl c.self.invariant.sets.waiting c.first_from.ensures)

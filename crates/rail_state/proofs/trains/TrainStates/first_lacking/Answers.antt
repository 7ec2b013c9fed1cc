use Rattle.std.proofs.Common.{List, refl, subst}
use Rattle.rail_state.specs.declared.train.TrainState.{TrainState}
use Rattle.rail_state.specs.TrainStates.{lacks_hold_line}
use Rattle.rail_state.proofs.Sets.{IsFirstWith, first_of_next, found_next}
use Rattle.rail_state.proofs.trains.TrainStates.first_lacking.Goals as goal

pub returns : goal.returns
returns c =
    subst (λ (states : List TrainState). IsFirstWith lacks_hold_line states c.first_from.result) c.self.view_is
    (first_of_next lacks_hold_line c.self.inside.rows.items c.first_from.result
    (found_next lacks_hold_line c.self.inside.rows.items c.self.inside.sets.lacking 0 c.first_from.result refl c.self.invariant.sets.lacking c.first_from.ensures))

use Rattle.std.proofs.Common.{List, refl, subst}
use Rattle.rail_state.specs.declared.train.TrainState.{TrainState}
use Rattle.rail_state.specs.TrainStates.{IsNextOf, is_untried}
use Rattle.rail_state.proofs.Sets.{found_next}
use Rattle.rail_state.proofs.trains.TrainStates.next_untried.Goals as goal

pub returns : goal.returns
returns c =
    subst (λ (states : List TrainState). IsNextOf is_untried states c.args.number c.first_from.result) c.self.view_is
    (found_next is_untried c.self.inside.rows.items c.self.inside.sets.untried c.args.number c.first_from.result refl c.self.invariant.sets.untried c.first_from.ensures)

use Rattle.std.proofs.Common.{[], ◌∷◌, ◌++◌, List, ap, ◌∙◌}
use Rattle.rail_block.specs.declared.times.MoveTimes.{MoveTimes}
use Rattle.rail_state.specs.declared.train.TrainState.{TrainState}
use Rattle.rail_state.specs.TrainStates.{outside}
use Rattle.rail_state.proofs.train.push_outside.Goals as goal

pub returns-clause-trains : goal.returns-clause-trains
returns-clause-trains c =
    let with_times : MoveTimes → List TrainState = λ times. c.args.states.now.items ++ record (outside c.args.plant.now c.args.train) { times = times } ∷ [] in
    c.push_reserved.ensures.items ∙ ap with_times (c.entry_times.ensures.times [])

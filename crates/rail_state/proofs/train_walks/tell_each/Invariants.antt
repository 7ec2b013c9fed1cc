use Rattle.std.proofs.Common.{[], ◌∷◌}
use Rattle.rail_sets.specs.TrainSets.{size_of}
use Rattle.rail_state.specs.TrainStates.{state_told}
use Rattle.rail_state.specs.TrainSearches.{AreSetsOf, is_waiting}
use Rattle.rail_state.proofs.Turned.{AllPass, IsTurned}
use Rattle.rail_state.proofs.train_walks.tell_each.Given as goal

abbrev pub invariant-loop-train : goal.invariant-loop-train
invariant-loop-train l = record {
  told : IsTurned (state_told l.plant (l.order ∷ [])) l.initial.rows l.rows l.left;
  waiting : AllPass is_waiting l.initial.rows l.left;
  sets : AreSetsOf l.rows l.sets;
}

abbrev pub decreases-loop-train : goal.decreases-loop-train
decreases-loop-train l = size_of l.left

use Rattle.rail_sets.specs.TrainSets.{size_of}
use Rattle.rail_state.specs.TrainSearches.{AreSetsOf}
use Rattle.rail_state.proofs.ChangeableCauses.{IsForgotten}
use Rattle.rail_state.proofs.train_walks.look_again_at_each.Given as goal

abbrev pub invariant-loop-train : goal.invariant-loop-train
invariant-loop-train l = record {
  forgotten : IsForgotten l.section l.initial.rows l.rows l.left l.any;
  sets : AreSetsOf l.rows l.sets;
}

abbrev pub decreases-loop-train : goal.decreases-loop-train
decreases-loop-train l = size_of l.left

use Rattle.rail_sets.specs.TrainSets.{size_of}
use Rattle.rail_state.specs.TrainStates.{after_taking}
use Rattle.rail_state.specs.TrainSearches.{AreSetsOf, is_changeable}
use Rattle.rail_state.proofs.Turned.{AllPass, IsTurned}
use Rattle.rail_state.proofs.train_walks.note_taking_each.Given as goal

abbrev pub invariant-loop-train : goal.invariant-loop-train
invariant-loop-train l = record {
  noted : IsTurned (after_taking l.plant l.holders) l.initial.rows l.rows l.left;
  changeable : AllPass is_changeable l.initial.rows l.left;
  sets : AreSetsOf l.rows l.sets;
}

abbrev pub decreases-loop-train : goal.decreases-loop-train
decreases-loop-train l = size_of l.left

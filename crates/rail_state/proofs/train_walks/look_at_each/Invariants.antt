use Rattle.rail_sets.specs.TrainSets.{size_of}
use Rattle.rail_state.specs.TrainStates.{bar_by, is_untried, looked_at}
use Rattle.rail_state.specs.TrainSearches.{AreBlockedAt, AreSetsOf}
use Rattle.rail_state.proofs.First.{IsFirstOf}
use Rattle.rail_state.proofs.Turned.{AllPass, IsTurned}
use Rattle.rail_state.proofs.train_walks.look_at_each.Given as goal

abbrev pub invariant-loop-train : goal.invariant-loop-train
invariant-loop-train l = record {
  looked : IsTurned (looked_at l.plant (bar_by l.orders l.holders)) l.initial.rows l.rows l.left;
  untried : AllPass is_untried l.initial.rows l.left;
  first : IsFirstOf l.rows l.left l.first;
  sets : AreSetsOf l.rows l.sets;
  blocked : AreBlockedAt l.initial.rows l.initial.blocked → AreBlockedAt l.rows l.blocked;
}

abbrev pub decreases-loop-train : goal.decreases-loop-train
decreases-loop-train l = size_of l.left

use Rattle.rail_consequence.specs.Cores.{IsCore}
use Rattle.rail_place.specs.Tables.{moves_in}
use Rattle.rail_sets.specs.TrainSets.{has_train, size_of}
use Rattle.rail_cores.specs.Alones.{IsAloneFor}
use Rattle.rail_cores.proofs.alone.Alone.thinned.Given as goal

abbrev pub invariant-loop-train : goal.invariant-loop-train
invariant-loop-train l = record {
  own : IsAloneFor (moves_in l.moves) l.self;
  core : IsCore (moves_in l.moves) l.depth l.places.positions (has_train l.core);
}

abbrev pub decreases-loop-train : goal.decreases-loop-train
decreases-loop-train l = size_of l.untried

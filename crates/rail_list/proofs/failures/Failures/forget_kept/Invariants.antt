use Rattle.rail_place.specs.Tables.{moves_in}
use Rattle.rail_sets.specs.TrainSets.{size_of}
use Rattle.rail_list.proofs.Failing.{IsForgetting}
use Rattle.rail_list.proofs.failures.Failures.forget_kept.Given as goal

abbrev pub invariant-loop-train : goal.invariant-loop-train
invariant-loop-train l = IsForgetting (moves_in l.moves) l.places.positions l.fn.self l.moved l.kept l.left l.known

abbrev pub decreases-loop-train : goal.decreases-loop-train
decreases-loop-train l = size_of l.left

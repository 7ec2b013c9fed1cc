use Rattle.rail_sets.specs.TrainSets.{size_of}
use Rattle.rail_cores.proofs.alone.first_but.Given as goal

abbrev pub decreases-loop-train : goal.decreases-loop-train
decreases-loop-train l = size_of l.trains

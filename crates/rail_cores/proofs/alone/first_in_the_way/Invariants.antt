use Rattle.rail_place.specs.PlaceStates.{IsMadeFor}
use Rattle.rail_cores.proofs.alone.first_in_the_way.Given as goal

abbrev pub invariant-loop-train : goal.invariant-loop-train
invariant-loop-train l = IsMadeFor l.moves l.played

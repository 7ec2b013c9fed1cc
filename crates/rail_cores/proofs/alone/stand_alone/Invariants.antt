use Rattle.rail_place.specs.PlaceStates.{IsMadeFor}
use Rattle.rail_cores.specs.Alones.{StandAlone}
use Rattle.rail_cores.proofs.alone.stand_alone.Given as goal

abbrev pub invariant-loop-number : goal.invariant-loop-number
invariant-loop-number l = record {
  made : IsMadeFor l.moves l.to;
  alone : StandAlone l.trains l.from.positions l.to.positions;
}

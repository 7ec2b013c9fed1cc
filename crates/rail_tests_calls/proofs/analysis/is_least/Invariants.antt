use Rattle.rail_place.specs.PlaceStates.{IsMadeFor}
use Rattle.rail_place.specs.Tables.{moves_in}
use Rattle.rail_consequence.specs.AnalystStates.{IsAnalystFor}
use Rattle.rail_tests_calls.proofs.analysis.is_least.Given as goal

abbrev pub invariant-loop-depth : goal.invariant-loop-depth
invariant-loop-depth l = record {
  made : IsMadeFor l.moves l.places;
  own : IsAnalystFor (moves_in l.moves) l.analyst;
}

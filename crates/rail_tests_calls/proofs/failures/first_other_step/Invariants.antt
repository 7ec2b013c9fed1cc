use Rattle.std.proofs.Common.{◌≡◌, true}
use Rattle.rail_cores.specs.Searchers.{IsSearcherFor}
use Rattle.rail_list.specs.Failures.{AreFailures}
use Rattle.rail_list.specs.KeptLists.{HasRoomFor}
use Rattle.rail_place.specs.PlaceStates.{IsMadeFor}
use Rattle.rail_place.specs.Tables.{moves_in}
use Rattle.rail_rules.specs.Places.{completes}
use Rattle.rail_tests_calls.specs.declared.failures.TheConstants.{DEPTH}
use Rattle.rail_tests_calls.proofs.failures.first_other_step.Given as goal

abbrev pub invariant-loop-step : goal.invariant-loop-step
invariant-loop-step l = record {
  made : IsMadeFor l.moves l.places;
  own : IsSearcherFor (moves_in l.moves) l.searcher;
  failures : AreFailures (moves_in l.moves) DEPTH l.places.positions l.failures;
  room : HasRoomFor l.moves l.kept;
  done : completes (moves_in l.moves) l.places.positions l.kept.trains ≡ true;
}

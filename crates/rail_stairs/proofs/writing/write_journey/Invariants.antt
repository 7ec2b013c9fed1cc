use Rattle.std.proofs.Common.{Ok}
use Rattle.std.specs.Prelude.{flat_map}
use Rattle.rail_rules.specs.Numbers.{gather}
use Rattle.rail_stairs.specs.Journeys.{before_move}
use Rattle.rail_stairs.specs.JourneyTrains.{at_train, of_train}
use Rattle.rail_stairs.specs.StairsTexts.{stair_line}
use Rattle.rail_stairs.specs.Stairways.{move_intervals}
use Rattle.rail_stairs.specs.Tallies.{IsTallied}
use Rattle.rail_text.specs.Writes.{WritesText}
use Rattle.rail_stairs.proofs.writing.write_journey.Given as goal

abbrev pub invariant-loop-index : goal.invariant-loop-index
invariant-loop-index g l = record {
  text : WritesText g.O.Sink l.initial.out l.out (flat_map (stair_line l.journey.plant.now) (gather (of_train move_intervals l.journey) l.index)) (Ok tt);
  counted : IsTallied l.ended (at_train before_move l.journey l.index) l.tallies;
}

use Rattle.std.proofs.Common.{◌≡◌, length}
use Rattle.rail_stairs.specs.declared.journey.TheConstants.{PLACES}
use Rattle.rail_stairs.specs.Journeys.{AreTimesTo}
use Rattle.rail_stairs.proofs.journey.times_by.Given as goal

abbrev pub invariant-loop-index : goal.invariant-loop-index
invariant-loop-index l = record {
  long : length l.times ≡ PLACES;
  times : AreTimesTo l.plant l.train l.admissions l.index l.times;
}

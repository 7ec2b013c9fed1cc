use Rattle.std.proofs.Common.{Ok}
use Rattle.std.specs.Prelude.{flat_map}
use Rattle.rail_stairs.specs.Journeys.{before_train}
use Rattle.rail_stairs.specs.StairsTexts.{stair_line}
use Rattle.rail_stairs.specs.Tallies.{IsTallied}
use Rattle.rail_text.specs.Writes.{WritesText}
use Rattle.rail_stairs.proofs.writing.write_intervals.Given as goal

abbrev pub invariant-loop-number : goal.invariant-loop-number
invariant-loop-number g l = record {
  text : WritesText g.O.Sink l.initial.out l.out (flat_map (stair_line l.plant) (before_train l.plant l.stairs l.number)) (Ok tt);
  counted : IsTallied l.ended (before_train l.plant l.stairs l.number) l.tallies;
}

use Rattle.std.proofs.Common.{◌≡◌, ◌++◌}
use Rattle.rail_rules.specs.Numbers.{gather}
use Rattle.rail_stairs.specs.JourneyTrains.{of_train}
use Rattle.rail_stairs.specs.Stairways.{move_intervals}
use Rattle.rail_stairs.proofs.intervals.push_journey.Given as goal

abbrev pub invariant-loop-index : goal.invariant-loop-index
invariant-loop-index l = l.intervals.items ≡ l.initial.intervals.items ++ gather (of_train move_intervals l.journey) l.index

use Rattle.std.proofs.Common.{◌≡◌, ◌++◌}
use Rattle.rail_rules.specs.Numbers.{gather}
use Rattle.rail_stairs.specs.JourneyTrains.{of_train}
use Rattle.rail_stairs.specs.Stairways.{step_intervals}
use Rattle.rail_stairs.proofs.intervals.push_move.Given as goal

abbrev pub invariant-loop-step : goal.invariant-loop-step
invariant-loop-step l = l.intervals.items ≡ l.initial.intervals.items ++ gather (of_train step_intervals l.journey l.index) l.step

use Rattle.std.proofs.Common.{◌≡◌}
use Rattle.rail_stairs.specs.Journeys.{before_train}
use Rattle.rail_stairs.proofs.intervals.collect.Given as goal

abbrev pub invariant-loop-number : goal.invariant-loop-number
invariant-loop-number l = l.intervals.items ≡ before_train l.plant l.stairs l.number

use Rattle.std.proofs.Common.{◌≡◌}
use Rattle.rail_stairs.proofs.OpenIntervals.{ended_to}
use Rattle.rail_stairs.proofs.intervals.ended_by.Given as goal

abbrev pub invariant-loop-interval : goal.invariant-loop-interval
invariant-loop-interval l = l.interval-items ≡ ended_to l.ended l.interval-index l.fn.intervals.items

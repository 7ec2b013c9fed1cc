use Rattle.std.proofs.Common.{◌≡◌, ◌-◌}
use Rattle.rail_plan.specs.CallTables.{departure_within}
use Rattle.rail_plan.proofs.calls.Calls.first_departure.Given as goal

abbrev pub invariant-loop-place : goal.invariant-loop-place
invariant-loop-place l = departure_within l.self l.train (l.from - 1) (l.to - l.from) ≡ departure_within l.self l.train (l.place - 1) (l.to - l.place)

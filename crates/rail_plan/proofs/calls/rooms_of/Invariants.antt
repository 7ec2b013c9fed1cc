use Rattle.std.proofs.Common.{◌≡◌, map, take}
use Rattle.rail_plan.proofs.CallRows.{calls_in, room_for}
use Rattle.rail_plan.proofs.calls.rooms_of.Given as goal

abbrev pub invariant-loop-train : goal.invariant-loop-train
invariant-loop-train l = map calls_in l.rooms.items ≡ map room_for (take l.train-index l.trains)

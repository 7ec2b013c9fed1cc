use Rattle.std.proofs.Common.{take}
use Rattle.rail_capacity.specs.Ends.{IsRoom}
use Rattle.rail_capacity.proofs.occupancy.room_behind.Given as goal

abbrev pub invariant-loop-block : goal.invariant-loop-block
invariant-loop-block l = IsRoom (take l.block-index l.blocks) l.ends l.train l.room

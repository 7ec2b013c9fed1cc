use Rattle.std.proofs.Common.{◌≡◌, length, take}
use Rattle.rail_capacity.specs.Ends.{AreEnds}
use Rattle.rail_capacity.proofs.occupancy.extend_all.Given as goal

abbrev pub invariant-loop-block : goal.invariant-loop-block
invariant-loop-block l = record {
  size : length l.ends ≡ length l.initial.ends;
  ends : AreEnds (take l.block-index l.blocks) l.ends;
}

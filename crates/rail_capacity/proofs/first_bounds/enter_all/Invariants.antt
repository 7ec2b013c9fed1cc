use Rattle.std.proofs.Common.{◌≡◌, length, take}
use Rattle.rail_capacity.specs.FirstBounds.{AreFirstBounds}
use Rattle.rail_capacity.proofs.first_bounds.enter_all.Given as goal

abbrev pub invariant-loop-block : goal.invariant-loop-block
invariant-loop-block l = record {
  size : length l.table ≡ length l.initial.table;
  started : AreFirstBounds l.from (take l.block-index l.blocks) l.table;
}

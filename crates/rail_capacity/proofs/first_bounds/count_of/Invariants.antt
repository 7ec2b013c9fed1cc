use Rattle.std.proofs.Common.{◌<◌, ◌≤◌}
use Rattle.std.specs.List.{AllWithin}
use Rattle.rail_capacity.specs.declared.blocking_times.BlockingTime.{BlockingTime}
use Rattle.rail_capacity.proofs.first_bounds.count_of.Given as goal

abbrev pub invariant-loop-block : goal.invariant-loop-block
invariant-loop-block l = record {
  above : AllWithin (λ (block : BlockingTime). block.train < l.count) l.blocks 0 l.block-index;
  small : l.count ≤ 65536;
}

use Rattle.std.proofs.Common.{◌≡◌, take, MatchOption}
use Rattle.rail_capacity.specs.Occupancy.{IsFirstBlock}
use Rattle.rail_capacity.proofs.occupancy.first_block.Given as goal

abbrev pub invariant-loop-block : goal.invariant-loop-block
invariant-loop-block l = MatchOption l.first (l.block-index ≡ 0) (λ block. IsFirstBlock (take l.block-index l.blocks) block)

use Rattle.std.proofs.Common.{◌≡◌, ◌<◌, length}
use Rattle.std.specs.List.{All}
use Rattle.rail_holders.specs.FirstHeld.{first_held}
use Rattle.rail_holders.proofs.holders.Holders.first_held.Given as goal

abbrev pub invariant-loop-four : goal.invariant-loop-four
invariant-loop-four l = record {
  same : first_held l.self l.left ≡ first_held l.self l.sections;
  known : All (λ x. x < length l.self) l.left;
}

abbrev pub decreases-loop-four : goal.decreases-loop-four
decreases-loop-four l = length l.left

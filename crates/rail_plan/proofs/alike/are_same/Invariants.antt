use Rattle.std.proofs.Common.{◌≡◌, take}
use Rattle.rail_plan.proofs.alike.are_same.Given as goal

abbrev pub invariant-loop-index : goal.invariant-loop-index
invariant-loop-index l = take l.index l.rows ≡ take l.index l.others

use Rattle.std.proofs.Common.{◌≡◌, take}
use Rattle.rail_tests_calls.proofs.plants.lists.Given as goal

abbrev pub invariant-loop-row : goal.invariant-loop-row
invariant-loop-row l = l.lists ≡ take l.row-index l.rows

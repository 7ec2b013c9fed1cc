use Rattle.std.proofs.Common.{◌≡◌, take}
use Rattle.rail_plan.proofs.lent.lent_rows.Given as goal

abbrev pub invariant-loop-row : goal.invariant-loop-row
invariant-loop-row l = l.moves.items ≡ take l.row-index l.rows

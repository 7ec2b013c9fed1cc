use Rattle.std.proofs.Common.{◌≡◌, length, map, take, vec_capacity}
use Rattle.rail_consequence.proofs.SharedRows.{sets_of}
use Rattle.rail_consequence.proofs.rows.shared_rows.Given as goal

abbrev pub invariant-loop-row : goal.invariant-loop-row
invariant-loop-row l = record {
  rows : map sets_of l.all.items ≡ map sets_of (take l.row-index l.rows);
  room : vec_capacity l.all ≡ length l.rows;
}

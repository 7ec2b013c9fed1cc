use Rattle.std.proofs.Common.{◌≡◌, ◌++◌, take, vec_capacity}
use Rattle.rail_base.proofs.tables.add_rows.Given as goal

abbrev pub invariant-loop-row : goal.invariant-loop-row
invariant-loop-row g l = record {
  rows : l.table.items ≡ l.fn.table.items ++ take l.row-index l.rows;
  room : vec_capacity l.table ≡ vec_capacity l.fn.table;
}

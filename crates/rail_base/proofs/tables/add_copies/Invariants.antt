use Rattle.std.proofs.Common.{◌≡◌, ◌++◌, replicate, vec_capacity}
use Rattle.rail_base.proofs.tables.add_copies.Given as goal

abbrev pub invariant-loop : goal.invariant-loop
invariant-loop g l = record {
  rows : l.table.items ≡ l.fn.table.items ++ replicate l.counter l.row;
  room : vec_capacity l.table ≡ vec_capacity l.fn.table;
}

use Rattle.std.proofs.Common.{◌≡◌, length, map, vec_capacity}
use Rattle.rail_place.specs.Tables.{moves_in}
use Rattle.rail_consequence.specs.Needs.{AreRows}
use Rattle.rail_consequence.proofs.SharedRows.{sets_of}
use Rattle.rail_consequence.proofs.rows.Rows.new.Given as goal

abbrev pub invariant-loop-number : goal.invariant-loop-number
invariant-loop-number l = record {
  rows : AreRows (moves_in l.moves) l.number (record { width = l.width; rows = map sets_of l.rows.items });
  room : vec_capacity l.rows ≡ length l.moves;
}

use Rattle.std.proofs.Common.{length}
use Rattle.rail_place.specs.Tables.{moves_in}
use Rattle.rail_command_line.specs.ListAnswers.{IsListFor}
use Rattle.rail_command_line.proofs.JoinedLines.{IsReadTo}
use Rattle.rail_command_line.proofs.list.read_list.Given as goal

abbrev pub invariant-loop-number : goal.invariant-loop-number
invariant-loop-number l = record {
  so_far : IsReadTo l.names.trains.keys (moves_in l.moves) l.may_move (length l.moves) l.bytes l.file l.number-iterator;
  fit : IsListFor l.moves l.file;
}

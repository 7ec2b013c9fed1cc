use Rattle.std.proofs.Common.{arith}
use Rattle.rail_place.proofs.Tables.{moves_at}
use Rattle.rail_place.proofs.moves.Moves.places.Goals as goal

pub overflow_cast-result : goal.overflow_cast-result
overflow_cast-result c =
    omega (arith, moves_at c.args.self.now c.args.train c.row.result.now c.row.ensures.lists, c.row.ensures.table.short c.args.train, c.len.ensures)

use Rattle.std.proofs.Common.{◌≡◌, ◌*◌, ◌≤◌}
use Rattle.rail_rules.specs.Plant.{run_over}
use Rattle.rail_block.specs.KnownMoves.{of_move}
use Rattle.rail_block.proofs.moves.KnownMove.run_over.Given as goal

abbrev pub invariant-loop-index : goal.invariant-loop-index
invariant-loop-index l = record { sum : l.time ≡ of_move run_over l.self l.index; short : l.time ≤ 4194304 * l.index }

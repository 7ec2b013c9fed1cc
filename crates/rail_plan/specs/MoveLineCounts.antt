-- How many lines the moves of a train have.
use Rattle.std.specs.Prelude.{ℕ, ◌+◌, ◌++◌, length, get_or}
use Rattle.rail_base.specs.declared.plant.MoveRow.{MoveRow}
use Rattle.rail_base.specs.declared.plant.TrainRow.{TrainRow}
use Rattle.rail_rules.specs.Numbers.{sum_below}
use Rattle.rail_rules.specs.Plant.{no_move}

-- a line for each needed section of a move and for each that it claims, and three more
abbrev pub row_lines : MoveRow → ℕ
row_lines row = length row.sections + length (row.sections ++ row.overlap) + 3

-- the lines of all moves of a train together
abbrev pub lines_of : TrainRow → ℕ
lines_of row = sum_below (λ m. row_lines (get_or row.moves m no_move)) (length row.moves)

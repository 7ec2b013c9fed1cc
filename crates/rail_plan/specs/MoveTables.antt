-- The table of moves that tables spell.
use Rattle.std.specs.Prelude.{ℕ, List, get_or, map, set}
use Rattle.rail_base.specs.declared.plant.MoveRow.{MoveRow}
use Rattle.rail_base.specs.declared.plant.Tables.{Tables}
use Rattle.rail_base.specs.declared.plant.TrainRow.{TrainRow}
use Rattle.rail_rules.specs.Plant.{Plant, no_train}
use Rattle.rail_place.specs.Tables.{MoveLists, lists_of}
use Rattle.rail_plan.specs.PlanFaults.{bare, standing_of}

-- the sections that each move needs
abbrev pub needs_in : List MoveRow → List (List ℕ)
needs_in moves = map (λ (row : MoveRow). row.sections) moves

-- the sections of each move's overlap
abbrev pub overs_in : List MoveRow → List (List ℕ)
overs_in moves = map (λ (row : MoveRow). row.overlap) moves

-- a train as the table of moves has it
abbrev pub spelled : Plant → TrainRow → MoveLists
spelled plant row = lists_of (needs_in row.moves) (overs_in row.moves) (map (standing_of plant row.kind.length) row.moves)

-- the table of moves of all trains
abbrev pub table_of : Tables → List MoveLists
table_of tables = map (spelled (bare tables)) tables.trains

-- the row of the train with these moves
abbrev pub row_with : Tables → ℕ → List MoveRow → TrainRow
row_with tables t rows = record (get_or tables.trains t no_train) { moves = rows }

-- the tables in which the train has these moves
abbrev pub with_moves : Tables → ℕ → List MoveRow → Tables
with_moves tables t rows = record tables { trains = set tables.trains t (row_with tables t rows) }

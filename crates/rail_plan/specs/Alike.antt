-- Trains whose moves are the same, and the moves of the first trains of tables.
use Rattle.std.specs.Prelude.{◌≡◌, ℕ, List, None, map, take}
use Rattle.rail_base.specs.declared.plant.Tables.{Tables}
use Rattle.rail_base.specs.declared.plant.TrainRow.{TrainRow}
use Rattle.rail_place.specs.Tables.{MoveLists}
use Rattle.rail_plan.specs.MoveTables.{spelled}
use Rattle.rail_plan.specs.PlanFaults.{bare, fault_of_train, first_answer}

-- the trains make the same moves, and are as long
pub record AreAlike (row other : TrainRow) : Type 0 where
  pub moves : row.moves ≡ other.moves
  pub long : row.kind.length ≡ other.kind.length

-- the table has the moves of the first so many trains, none of which has a fault
pub record IsMadeTo (tables : Tables) (n : ℕ) (made : List MoveLists) : Type 0 where
  pub table : made ≡ map (spelled (bare tables)) (take n tables.trains)
  pub none : first_answer (fault_of_train (bare tables)) n ≡ None

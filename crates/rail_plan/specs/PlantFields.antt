-- What a plant keeps.
use Rattle.std.specs.Prelude.{◌≡◌, ℕ, List, Option, map, IsTrue}
use Rattle.rail_base.specs.declared.plant.Call.{Call}
use Rattle.rail_base.specs.declared.plant.Tables.{Tables}
use Rattle.rail_base.specs.declared.plant.SectionRow.{SectionRow}
use Rattle.rail_base.specs.declared.plant.TrainRow.{TrainRow}
use Rattle.rail_rules.specs.Plant.{moves_of}
use Rattle.rail_rules.specs.Accepted.{is_accepted}
use Rattle.rail_place.specs.Tables.{moves_in, MoveLists}
use Rattle.rail_plan.specs.CallTables.{with_calls}
use Rattle.rail_plan.specs.MoveTables.{table_of}

-- a plant that may be run; beside its tables and calls it keeps the names and the moves that they spell
pub record IsPlantInside (section_names train_names : List (List ℕ)) (table : List MoveLists) (tables : Tables)
    (calls : List (List (Option Call))) : Type 0 where
  pub accepted : IsTrue (is_accepted (with_calls tables calls))
  pub sections : section_names ≡ map (λ (row : SectionRow). row.name) tables.sections
  pub trains : train_names ≡ map (λ (row : TrainRow). row.name) tables.trains
  pub moves : moves_in table ≡ moves_of (with_calls tables calls)
  pub spelled : table ≡ table_of tables

-- What a judge of proposals keeps, and that it stands for a scene.
use Rattle.std.specs.Prelude.{◌≡◌, ℕ, Bool, not, List, get_or, length, set, Option, is_some, IfSome, None}
use Rattle.rail_base.specs.declared.plant.Tables.{Tables}
use Rattle.rail_place.specs.PlaceStates.{IsMadeFor}
use Rattle.rail_place.specs.Tables.{MoveLists, moves_in, no_lists}
use Rattle.rail_plan.specs.MoveTables.{table_of}
use Rattle.rail_plan.specs.PlanFaults.{IsPlannable, bare}
use Rattle.rail_rules.specs.Moves.{Moves}
use Rattle.rail_rules.specs.Plant.{moves_of}
use Rattle.rail_scene.specs.declared.scene.Scene.{Scene}
use Rattle.rail_compile.specs.Itineraries.{tables_of}
use Rattle.rail_compile.specs.Ways.{AreLookups}
use Rattle.rail_reroute.specs.declared.judges.Judge.{Judge}
use Rattle.rail_consequence.specs.AnalystStates.{IsAnalystFor}
use Rattle.rail_consequence.specs.Cores.{IsCore}
use Rattle.rail_cores.specs.Alones.{IsAloneFor}
use Rattle.rail_sets.specs.TrainSets.{has_train}

-- nobody holds the section
abbrev pub is_unheld : List (Option ℕ) → ℕ → Bool
is_unheld owners x = not (is_some (get_or owners x None))

-- the core that is known, if one is, is a core where the trains stand
abbrev pub KnowsCore : Judge → Type 0
KnowsCore state = IfSome state.core (λ core. IsCore (moves_in state.moves) state.tables.depth state.places.positions (has_train core))

-- the moves, the analyst and the places are those of the tables, which are planned, and so is what seeks cores
pub record IsOfTables (tables : Tables) (state : Judge) : Type 0 where
  pub plannable : IsPlannable tables
  pub moves : state.moves ≡ table_of tables
  pub analyst : IsAnalystFor (moves_in state.moves) state.analyst
  pub places : IsMadeFor state.moves state.places
  pub alone : IsAloneFor (moves_in state.moves) state.alone
  pub known : KnowsCore state

-- the judge stands for the scene: it looks up the scene, its tables are those of the scene, and all else belongs to them
pub record IsJudgeFor (scene : Scene) (state : Judge) : Type 0 where
  pub lookups : AreLookups scene state.lookups
  pub tables : state.tables ≡ tables_of scene
  pub own : IsOfTables (tables_of scene) state

-- the moves of a table in which the row of one train is that of another table
abbrev pub moves_with : List MoveLists → ℕ → List MoveLists → Moves
moves_with table t row = moves_in (set table t (get_or row 0 no_lists))

-- these are the moves of one train alone, with which the moves of the tables are those of the other tables
pub record IsRowFor (tables : Tables) (t : ℕ) (other : Tables) (row : List MoveLists) : Type 0 where
  pub one : length row ≡ 1
  pub moves : moves_with (table_of tables) t row ≡ moves_of (bare other)

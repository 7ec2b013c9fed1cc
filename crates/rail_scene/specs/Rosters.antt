-- The train kinds and the trains of a scene.
use Rattle.std.specs.Prelude.{◌≤◌, List, [], ◌∷◌, length, IsTrue}
use Rattle.std.specs.List.{list_all, list_any}
use Rattle.rail_base.specs.Limits.{most, Kinds, Trains}
use Rattle.rail_base.specs.declared.refusals.Reason.TheVariants.{Repeated}
use Rattle.rail_base.specs.declared.plant.TrainKind.{TrainKind}
use Rattle.rail_track.specs.declared.section.NetFault.{NetFault}
use Rattle.rail_base.specs.Lists.{are_distinct}
use Rattle.rail_base.specs.FirstRefusals.{Test}
use Rattle.rail_track.specs.NetFaults.{refused_where}
use Rattle.rail_scene.specs.declared.scene.SceneTrain.{SceneTrain}
use Rattle.rail_scene.specs.Scenes.{is_fit_kind, is_fit_train, is_one_kind, is_one_train}

-- few enough kinds, each fit and of a name of its own
pub record AreKinds (kinds : List TrainKind) : Type 0 where
  pub few : length kinds ≤ most Kinds
  pub fit : IsTrue (list_all is_fit_kind kinds)
  pub apart : IsTrue (are_distinct is_one_kind kinds)

-- few enough trains, each fit and of a name of its own
pub record AreTrains (trains : List SceneTrain) : Type 0 where
  pub few : length trains ≤ most Trains
  pub fit : IsTrue (list_all is_fit_train trains)
  pub apart : IsTrue (are_distinct is_one_train trains)

-- the tests of a new kind beside these
abbrev pub kind_tests : List TrainKind → TrainKind → List (Test NetFault)
kind_tests kinds kind = refused_where Repeated 1 (list_any (is_one_kind kind) kinds) ∷ []

-- the tests of a new train beside these
abbrev pub train_tests : List SceneTrain → SceneTrain → List (Test NetFault)
train_tests trains train = refused_where Repeated 1 (list_any (is_one_train train) trains) ∷ []

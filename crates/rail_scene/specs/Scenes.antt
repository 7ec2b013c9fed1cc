-- Scenes: their limits, and names that are found once.
use Rattle.std.specs.Prelude.{◌≤◌, ◌&&◌, Bool, length, IsTrue, nat_le}
use Rattle.std.specs.List.{list_all}
use Rattle.rail_base.specs.NameForms.{same_name}
use Rattle.rail_base.specs.Limits.{is_from_one, most, ReleaseTime, OverlapTime, Depth, Kinds, Trains, TrainLength, Speed, StartSupplement, StopSupplement, InputTime, ItineraryRoutes}
use Rattle.rail_base.specs.declared.plant.TrainKind.{TrainKind}
use Rattle.rail_base.specs.Lists.{are_distinct}
use Rattle.rail_scene.specs.declared.scene.Scene.{Scene}
use Rattle.rail_scene.specs.declared.scene.SceneTrain.{SceneTrain}

-- the numbers of a train kind are in range
abbrev pub is_fit_kind : TrainKind → Bool
is_fit_kind kind =
    is_from_one (most TrainLength) kind.length && is_from_one (most Speed) kind.speed
    && nat_le kind.start (most StartSupplement) && nat_le kind.stop (most StopSupplement)

-- the train enters within the time of an input, and its itinerary has at least one route and not too many
abbrev pub is_fit_train : SceneTrain → Bool
is_fit_train train = nat_le train.entry (most InputTime) && is_from_one (most ItineraryRoutes) (length train.routes)

-- two kinds, or two trains, have one name
abbrev pub is_one_kind : TrainKind → TrainKind → Bool
is_one_kind kind other = same_name kind.name other.name

-- two trains have one name
abbrev pub is_one_train : SceneTrain → SceneTrain → Bool
is_one_train train other = same_name train.name other.name

-- a scene keeps the limits and ranges, and no two of its kinds and no two of its trains have one name
pub record IsScene (scene : Scene) : Type 0 where
  pub release : scene.release ≤ most ReleaseTime
  pub depth : scene.depth ≤ most Depth
  pub overlap_time : scene.overlap_time ≤ most OverlapTime
  pub few_kinds : length scene.kinds ≤ most Kinds
  pub few_trains : length scene.trains ≤ most Trains
  pub kinds : IsTrue (list_all is_fit_kind scene.kinds)
  pub trains : IsTrue (list_all is_fit_train scene.trains)
  pub kinds_apart : IsTrue (are_distinct is_one_kind scene.kinds)
  pub trains_apart : IsTrue (are_distinct is_one_train scene.trains)

-- What the types of the fields of a scene say: each name is one, and a priority has one byte.
use Rattle.std.specs.Prelude.{Bool, true, ◌&&◌, nat_le, IsTrue}
use Rattle.std.specs.List.{list_all}
use Rattle.std.specs.Option.{option_map_or}
use Rattle.rail_base.specs.NameForms.{is_name}
use Rattle.rail_base.specs.declared.plant.TrainKind.{TrainKind}
use Rattle.rail_track.specs.declared.section.Section.{Section}
use Rattle.rail_routes.specs.declared.items.Post.{Post}
use Rattle.rail_routes.specs.declared.items.Route.{Route}
use Rattle.rail_routes.specs.declared.items.Turn.{Turn}
use Rattle.rail_routes.specs.Net.{Net}
use Rattle.rail_scene.specs.declared.scene.Scene.{Scene}
use Rattle.rail_scene.specs.declared.scene.SceneTrain.{SceneTrain}
use Rattle.rail_scene_text.specs.Tables.{path_of, overlap_of}

-- the name of a section, and its joints, are names
abbrev pub is_typed_section : Section → Bool
is_typed_section section = is_name section.name && list_all is_name section.joints

-- the name of a post, its joint, and its section ahead, where it has one, are names
abbrev pub is_typed_post : Post → Bool
is_typed_post post = is_name post.name && is_name post.joint && option_map_or is_name post.ahead true

-- the posts of a turn are named by names
abbrev pub is_typed_turn : Turn → Bool
is_typed_turn turn = is_name turn.arriving && is_name turn.leaving

-- the name of a route, its posts, its path and its overlap are names
abbrev pub is_typed_route : Route → Bool
is_typed_route route =
    is_name route.name && is_name route.from && is_name route.to && list_all is_name (path_of route.steps)
    && list_all is_name (overlap_of route.overlap)

-- the name of a train kind is a name
abbrev pub is_typed_kind : TrainKind → Bool
is_typed_kind kind = is_name kind.name

-- the name of a train, its kind and its routes are names, and its priority has one byte
abbrev pub is_typed_train : SceneTrain → Bool
is_typed_train train = is_name train.name && is_name train.kind && nat_le train.priority 255 && list_all is_name train.routes

-- what the types of a network say of it
pub record IsTypedNetwork (network : Net) : Type 0 where
  pub sections : IsTrue (list_all is_typed_section network.sections)
  pub portals : IsTrue (list_all is_typed_post network.portals)
  pub signals : IsTrue (list_all is_typed_post network.signals)
  pub boards : IsTrue (list_all is_typed_post network.boards)
  pub turns : IsTrue (list_all is_typed_turn network.turns)
  pub routes : IsTrue (list_all is_typed_route network.routes)

-- what the types of a scene say of it
pub record IsTyped (scene : Scene) : Type 0 where
  pub policy : IsTrue (is_name scene.policy)
  pub network : IsTypedNetwork scene.network
  pub kinds : IsTrue (list_all is_typed_kind scene.kinds)
  pub trains : IsTrue (list_all is_typed_train scene.trains)

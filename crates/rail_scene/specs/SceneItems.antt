-- The items of a scene: what stands when the next one comes.
use Rattle.std.specs.Prelude.{◌+◌, Bool, List, [], ◌∷◌, ◌++◌, map, length, nat_le}
use Rattle.toml.specs.Data.{Data}
use Rattle.rail_base.specs.Limits.{most, Sections, Posts, Turns, Routes, Kinds, Trains}
use Rattle.rail_base.specs.declared.plant.TrainKind.{TrainKind}
use Rattle.rail_base.specs.declared.refusals.Reason.TheVariants.{TooMany}
use Rattle.rail_track.specs.declared.section.NetFault.{NetFault}
use Rattle.rail_track.specs.SectionRules.{section_tests}
use Rattle.rail_base.specs.FirstRefusals.{Test}
use Rattle.rail_track.specs.NetFaults.{refused_where}
use Rattle.rail_routes.specs.Net.{Net}
use Rattle.rail_routes.specs.SectionRules.{is_closed_by}
use Rattle.rail_routes.specs.PostRules.{post_tests}
use Rattle.rail_routes.specs.TurnRules.{turn_tests}
use Rattle.rail_routes.specs.RouteRules.{route_tests}
use Rattle.rail_scene.specs.declared.keys.ListPart.{ListPart}
use Rattle.rail_scene.specs.declared.scene.SceneTrain.{SceneTrain}
use Rattle.rail_scene.specs.declared.versions.Version.{Version}
use Rattle.rail_scene.specs.declared.keys.ListPart.TheVariants.{Section, Portal, Signal, Board, Turn, Route, Kind, Train}
use Rattle.rail_scene.specs.Keys.{keys_of}
use Rattle.rail_scene.specs.Entries.{section_of, portal_of, signal_of, board_of, turn_of, route_of, kind_of, train_of}
use Rattle.rail_scene.specs.Values.{value_tests}
use Rattle.rail_scene.specs.Rosters.{kind_tests, train_tests}

-- the items of a scene, or those of them before some item
pub record SceneItems : Type 0 where
  pub network : Net
  pub kinds : List TrainKind
  pub trains : List SceneTrain

-- a scene without items
abbrev pub no_items : SceneItems
no_items = record {
  network = record { sections = []; portals = []; signals = []; boards = []; turns = []; routes = [] };
  kinds = [];
  trains = [];
}

-- the posts of all roles together are at their limit
abbrev pub are_posts_full : Net → Bool
are_posts_full net = nat_le (most Posts) (length net.portals + length net.signals + length net.boards)

-- the list takes no further item
abbrev pub is_full : ListPart → SceneItems → Bool
is_full Section items = nat_le (most Sections) (length items.network.sections)
is_full Portal items = are_posts_full items.network
is_full Signal items = are_posts_full items.network
is_full Board items = are_posts_full items.network
is_full Turn items = nat_le (most Turns) (length items.network.turns)
is_full Route items = nat_le (most Routes) (length items.network.routes)
is_full Kind items = nat_le (most Kinds) (length items.kinds)
is_full Train items = nat_le (most Trains) (length items.trains)

-- the tests of the item of a table beside those that stand already
abbrev pub place_tests : ListPart → Version → SceneItems → Data → List (Test NetFault)
place_tests Section version items node =
    section_tests items.network.sections (is_closed_by items.network.sections items.network.portals) (section_of node)
place_tests Portal version items node = post_tests items.network (portal_of node)
place_tests Signal version items node = post_tests items.network (signal_of node)
place_tests Board version items node = post_tests items.network (board_of node)
place_tests Turn version items node = turn_tests items.network (turn_of node)
place_tests Route version items node = route_tests items.network (route_of version node)
place_tests Kind version items node = kind_tests items.kinds (kind_of node)
place_tests Train version items node = train_tests items.trains (train_of node)

-- the tests of the item of a table: its own values key by key, then those beside the items that stand
abbrev pub own_tests : ListPart → Version → SceneItems → Data → List (Test NetFault)
own_tests part version items node = value_tests 1 (keys_of part version) node ++ place_tests part version items node

-- the tests of an item: one too many, then its own
abbrev pub item_tests : ListPart → Version → SceneItems → Data → List (Test NetFault)
item_tests part version items node = refused_where TooMany 0 (is_full part items) ∷ own_tests part version items node

-- the items with those of these tables last in their list, by the version of the file
abbrev pub with_items : ListPart → Version → List Data → SceneItems → SceneItems
with_items Section version nodes items =
    record items { network = record items.network { sections = items.network.sections ++ map section_of nodes } }
with_items Portal version nodes items = record items { network = record items.network { portals = items.network.portals ++ map portal_of nodes } }
with_items Signal version nodes items = record items { network = record items.network { signals = items.network.signals ++ map signal_of nodes } }
with_items Board version nodes items = record items { network = record items.network { boards = items.network.boards ++ map board_of nodes } }
with_items Turn version nodes items = record items { network = record items.network { turns = items.network.turns ++ map turn_of nodes } }
with_items Route version nodes items = record items { network = record items.network { routes = items.network.routes ++ map (route_of version) nodes } }
with_items Kind version nodes items = record items { kinds = items.kinds ++ map kind_of nodes }
with_items Train version nodes items = record items { trains = items.trains ++ map train_of nodes }

-- Why the item that a table spells is refused: for its own values, key by key, and then beside the items that stand already.
use Rattle.std.specs.Prelude.{List, ◌++◌, Option}
use Rattle.toml.specs.Data.{Data}
use Rattle.rail_base.specs.declared.plant.TrainKind.{TrainKind}
use Rattle.rail_track.specs.declared.section.NetFault.{NetFault}
use Rattle.rail_track.specs.SectionRules.{section_tests}
use Rattle.rail_base.specs.FirstRefusals.{first_failing}
use Rattle.rail_routes.specs.Net.{Net}
use Rattle.rail_routes.specs.SectionRules.{is_closed_by}
use Rattle.rail_routes.specs.PostRules.{post_tests}
use Rattle.rail_routes.specs.TurnRules.{turn_tests}
use Rattle.rail_routes.specs.RouteRules.{route_tests}
use Rattle.rail_scene.specs.declared.scene.SceneTrain.{SceneTrain}
use Rattle.rail_scene.specs.declared.versions.Version.{Version}
use Rattle.rail_scene.specs.Keys.{section_keys, portal_keys, signal_keys, board_keys, turn_keys, route_keys, kind_keys, train_keys}
use Rattle.rail_scene.specs.Entries.{section_of, portal_of, signal_of, board_of, turn_of, route_of, kind_of, train_of}
use Rattle.rail_scene.specs.Rosters.{kind_tests, train_tests}
use Rattle.rail_scene.specs.Values.{value_tests}

-- why the section of a table is refused beside a network
abbrev pub spelled_section_refusal : Net → Data → Option NetFault
spelled_section_refusal net node =
    first_failing
    (value_tests 1 section_keys node ++ section_tests net.sections (is_closed_by net.sections net.portals) (section_of node))

-- why the portal of a table is refused beside a network
abbrev pub spelled_portal_refusal : Net → Data → Option NetFault
spelled_portal_refusal net node = first_failing (value_tests 1 portal_keys node ++ post_tests net (portal_of node))

-- why the signal of a table is refused beside a network
abbrev pub spelled_signal_refusal : Net → Data → Option NetFault
spelled_signal_refusal net node = first_failing (value_tests 1 signal_keys node ++ post_tests net (signal_of node))

-- why the board of a table is refused beside a network
abbrev pub spelled_board_refusal : Net → Data → Option NetFault
spelled_board_refusal net node = first_failing (value_tests 1 board_keys node ++ post_tests net (board_of node))

-- why the turn of a table is refused beside a network
abbrev pub spelled_turn_refusal : Net → Data → Option NetFault
spelled_turn_refusal net node = first_failing (value_tests 1 turn_keys node ++ turn_tests net (turn_of node))

-- why the route of a table is refused beside a network
abbrev pub spelled_route_refusal : Version → Net → Data → Option NetFault
spelled_route_refusal version net node = first_failing (value_tests 1 (route_keys version) node ++ route_tests net (route_of version node))

-- why the train kind of a table is refused beside other kinds
abbrev pub spelled_kind_refusal : List TrainKind → Data → Option NetFault
spelled_kind_refusal kinds node = first_failing (value_tests 1 kind_keys node ++ kind_tests kinds (kind_of node))

-- why the train of a table is refused beside other trains
abbrev pub spelled_train_refusal : List SceneTrain → Data → Option NetFault
spelled_train_refusal trains node = first_failing (value_tests 1 train_keys node ++ train_tests trains (train_of node))

-- Edits of a network.
use Rattle.std.specs.Prelude.{Bool, true, [], ◌∷◌, ◌++◌, Option}
use Rattle.rail_track.specs.declared.section.NetFault.{NetFault}
use Rattle.rail_track.specs.Joints.{is_named}
use Rattle.rail_track.specs.Lists.{without}
use Rattle.rail_routes.specs.Net.{Net, is_turn, is_route}
use Rattle.rail_routes.specs.PostChanges.{with_post, without_post}
use Rattle.rail_routes.specs.PostRules.{is_formed, post_refusal}
use Rattle.rail_routes.specs.RouteRules.{route_refusal}
use Rattle.rail_routes.specs.SectionRules.{net_section_refusal}
use Rattle.rail_routes.specs.TurnRules.{turn_refusal}
use Rattle.rail_routes.specs.Uses.{section_removal, post_removal, turn_removal, route_removal}
use Rattle.rail_edit.specs.declared.edit.Edit.{Edit}
use Rattle.rail_edit.specs.declared.edit.Edit.TheVariants.{AddSection, AddPost, AddTurn, AddRoute, RemoveSection, RemovePost, RemoveTurn, RemoveRoute}

-- a post that an edit adds is formed as its role asks
abbrev pub is_formed_edit : Edit → Bool
is_formed_edit (AddPost post) = is_formed post
is_formed_edit edit = true

-- the network after an edit
abbrev pub edited : Edit → Net → Net
edited (AddSection section) net = record net { sections = net.sections ++ section ∷ [] }
edited (AddPost post) net = with_post post net
edited (AddTurn turn) net = record net { turns = net.turns ++ turn ∷ [] }
edited (AddRoute route) net = record net { routes = net.routes ++ route ∷ [] }
edited (RemoveSection name) net = record net { sections = without (is_named name) net.sections }
edited (RemovePost name) net = without_post name net
edited (RemoveTurn arriving leaving) net = record net { turns = without (is_turn arriving leaving) net.turns }
edited (RemoveRoute name) net = record net { routes = without (is_route name) net.routes }

-- why a network refuses an edit
abbrev pub edit_refusal : Edit → Net → Option NetFault
edit_refusal (AddSection section) net = net_section_refusal net section
edit_refusal (AddPost post) net = post_refusal net post
edit_refusal (AddTurn turn) net = turn_refusal net turn
edit_refusal (AddRoute route) net = route_refusal net route
edit_refusal (RemoveSection name) net = section_removal net name
edit_refusal (RemovePost name) net = post_removal net name
edit_refusal (RemoveTurn arriving leaving) net = turn_removal net arriving leaving
edit_refusal (RemoveRoute name) net = route_removal net name

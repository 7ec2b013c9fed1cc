-- Networks that are accepted item by item.
use Rattle.std.specs.Prelude.{Bool, true, not, ◌&&◌, List, [], ◌∷◌, ◌++◌, Option, is_some}
use Rattle.rail_track.specs.declared.section.NetFault.{NetFault}
use Rattle.rail_routes.specs.Net.{Net}
use Rattle.rail_routes.specs.SectionRules.{net_section_refusal}
use Rattle.rail_routes.specs.PostRules.{post_refusal}
use Rattle.rail_routes.specs.TurnRules.{turn_refusal}
use Rattle.rail_routes.specs.RouteRules.{route_refusal}

-- each item of a list is accepted beside those before it
abbrev pub are_accepted : {X : Type 0} → (List X → X → Option NetFault) → List X → List X → Bool
are_accepted refusal before [] = true
are_accepted refusal before (x ∷ xs) = not (is_some (refusal before x)) && are_accepted refusal (before ++ x ∷ []) xs

-- the items of a network are accepted in the order of its lists, each beside the items before it alone
abbrev pub is_accepted_in_order : Net → Bool
is_accepted_in_order net =
    are_accepted (λ before. net_section_refusal (record { sections = before; portals = []; signals = []; boards = []; turns = []; routes = [] })) [] net.sections
    && are_accepted (λ before. post_refusal (record net { portals = before; signals = []; boards = []; turns = []; routes = [] })) [] net.portals
    && are_accepted (λ before. post_refusal (record net { signals = before; boards = []; turns = []; routes = [] })) [] net.signals
    && are_accepted (λ before. post_refusal (record net { boards = before; turns = []; routes = [] })) [] net.boards
    && are_accepted (λ before. turn_refusal (record net { turns = before; routes = [] })) [] net.turns
    && are_accepted (λ before. route_refusal (record net { routes = before })) [] net.routes

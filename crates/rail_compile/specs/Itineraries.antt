-- Itineraries: routes that follow one another, and the moves and tables that they spell.
use Rattle.std.specs.Prelude.{ℕ, ◌+◌, Bool, true, false, not, ◌&&◌, ◌||◌, List, [], ◌∷◌, map, Option, Some, None, is_some, unwrap_or, option_and_then, position}
use Rattle.std.specs.List.{find}
use Rattle.std.specs.Option.{option_map_or}
use Rattle.rail_base.specs.NameForms.{same_name}
use Rattle.rail_base.specs.declared.plant.Tables.{Tables}
use Rattle.rail_base.specs.declared.plant.SectionRow.{SectionRow}
use Rattle.rail_base.specs.declared.plant.TrainRow.{TrainRow}
use Rattle.rail_base.specs.declared.plant.TrainKind.{TrainKind}
use Rattle.rail_base.specs.declared.plant.MoveRow.{MoveRow}
use Rattle.rail_base.specs.declared.plant.TurnRow.{TurnRow}
use Rattle.rail_rules.specs.Plant.{Plant, no_kind}
use Rattle.rail_track.specs.declared.section.Section.{Section}
use Rattle.rail_track.specs.Joints.{is_named}
use Rattle.rail_routes.specs.declared.items.Post.{Post}
use Rattle.rail_routes.specs.declared.items.PostRole.{PostRole}
use Rattle.rail_routes.specs.declared.items.PostRole.TheVariants.{Portal, Signal, Board}
use Rattle.rail_routes.specs.declared.items.Turn.{Turn}
use Rattle.rail_routes.specs.declared.items.Step.{Step}
use Rattle.rail_routes.specs.declared.items.Route.{Route}
use Rattle.rail_routes.specs.Net.{Net, is_turn, is_route, no_post, no_route, post_named, guards}
use Rattle.rail_plan.specs.PlanFaults.{bare}
use Rattle.rail_scene.specs.declared.scene.Scene.{Scene}
use Rattle.rail_scene.specs.declared.scene.SceneTrain.{SceneTrain}

-- the route of this name
abbrev pub route_of : Net → List ℕ → Route
route_of net name = unwrap_or (find (is_route name) net.routes) no_route

-- the routes of an itinerary, in order
abbrev pub routes_of : Net → List (List ℕ) → List Route
routes_of net names = map (route_of net) names

-- a train that came over the step may leave from the signal: it stands where the step is entered, and the section of
-- the step isn't ahead of it
abbrev pub may_leave : Post → Step → Bool
may_leave leaving step = same_name leaving.joint step.from && not (guards step.section leaving)

-- the first step of the route, counted from 0, over which a train may leave from where the next route begins
abbrev pub turn_step : Net → Route → Route → Option ℕ
turn_step net route next = option_and_then (λ leaving. position (may_leave leaving) route.steps) (post_named next.from net)

-- the turn from the end of the route to the beginning of the next one
abbrev pub turn_to : Net → Route → Route → Option Turn
turn_to net route next = find (is_turn route.to next.from) net.turns

-- a turn at a step, which a row counts from 1
abbrev pub turn_row : Option Turn → Option ℕ → Option TurnRow
turn_row (Some turn) (Some step) = Some (record { step = step + 1; time = turn.time })
turn_row turn step = None

-- the turn between two routes: there is one from the end of the first to the beginning of the second, at a step over
-- which a train may leave there
abbrev pub turn_between : Net → Route → Route → Option TurnRow
turn_between net route next = turn_row (turn_to net route next) (turn_step net route next)

-- the post is a portal
abbrev pub is_portal_role : PostRole → Bool
is_portal_role Portal = true
is_portal_role Signal = false
is_portal_role Board = false

-- a portal of the network has this name
abbrev pub is_portal : Net → List ℕ → Bool
is_portal net name = option_map_or (λ (post : Post). is_portal_role post.role) (post_named name net) false

-- the post is a signal
abbrev pub is_signal_role : PostRole → Bool
is_signal_role Portal = false
is_signal_role Signal = true
is_signal_role Board = false

-- a signal of the network has this name
abbrev pub is_signal : Net → List ℕ → Bool
is_signal net name = option_map_or (λ (post : Post). is_signal_role post.role) (post_named name net) false

-- the route ends at the signal where the next one begins
abbrev pub runs_on : Net → Route → Route → Bool
runs_on net route next = same_name route.to next.from && is_signal net route.to

-- a train may go on from the route to the next one, straight on or by a turn
abbrev pub goes_on_to : Net → Route → Route → Bool
goes_on_to net route next = runs_on net route next || is_some (turn_between net route next)

-- the turn at the end of a route, before the routes that come after it
abbrev pub turn_before : Net → Route → List Route → Option TurnRow
turn_before net route [] = None
turn_before net route (next ∷ rest) = turn_between net route next

-- the number of the section of this name, in the order of the network
abbrev pub number_of : Net → List ℕ → ℕ
number_of net name = unwrap_or (position (is_named name) net.sections) 0

-- the move over a route and its overlap, from the post at which it begins, with the turn at its end
abbrev pub move_over : Net → Route → Option TurnRow → MoveRow
move_over net route turn = let post = unwrap_or (post_named route.from net) no_post in
    record {
      sections = map (λ (step : Step). number_of net step.section) route.steps;
      overlap = map (λ (step : Step). number_of net step.section) route.overlap;
      setting = post.setting;
      watching = post.watching;
      approach = post.approach;
      turn = turn;
    }

-- the moves over the routes of an itinerary
abbrev pub moves_over : Net → List Route → List MoveRow
moves_over net [] = []
moves_over net (route ∷ rest) = move_over net route (turn_before net route rest) ∷ moves_over net rest

-- the train kind of this name
abbrev pub kind_of : List TrainKind → List ℕ → TrainKind
kind_of kinds name = unwrap_or (find (λ kind. same_name name kind.name) kinds) no_kind

-- a section of the plant
abbrev pub section_row : Section → SectionRow
section_row section = record { name = section.name; length = section.length; speed = section.speed }

-- a train of the plant, with a move for each route of its itinerary
abbrev pub train_row : Scene → SceneTrain → TrainRow
train_row scene train = record {
  name = train.name;
  kind = kind_of scene.kinds train.kind;
  entry = train.entry;
  priority = train.priority;
  moves = moves_over scene.network (routes_of scene.network train.routes);
}

-- the tables that the scene spells
abbrev pub tables_of : Scene → Tables
tables_of scene = record {
  sections = map section_row scene.network.sections;
  release = scene.release;
  overlap_time = scene.overlap_time;
  depth = scene.depth;
  trains = map (train_row scene) scene.trains;
}

-- the plant of the scene, which has no calls
abbrev pub plant_of_scene : Scene → Plant
plant_of_scene scene = bare (tables_of scene)

-- the scene with these trains in place of its own
abbrev pub with_trains : Scene → List SceneTrain → Scene
with_trains scene trains = record scene { trains = trains }

-- The routes of a network by their numbers, and what each gives to the itineraries over it.
use Rattle.std.specs.Prelude.{ℕ, Bool, nat_lt, length, List, map, get_or, position, unwrap_or, None, ◌≡◌}
use Rattle.std.specs.List.{list_all, list_any}
use Rattle.rail_base.specs.NameForms.{same_name}
use Rattle.rail_track.specs.declared.section.Section.{Section}
use Rattle.rail_track.specs.Joints.{is_named}
use Rattle.rail_routes.specs.declared.items.Route.{Route}
use Rattle.rail_routes.specs.declared.items.Step.{Step}
use Rattle.rail_routes.specs.Net.{Net, no_route}
use Rattle.rail_base.specs.declared.plant.TrainKind.{TrainKind}
use Rattle.rail_scene.specs.declared.scene.Scene.{Scene}
use Rattle.rail_compile.specs.declared.compiling.Lookups.{Lookups}
use Rattle.rail_compile.specs.declared.compiling.ways.Way.{Way}
use Rattle.rail_compile.specs.declared.compiling.ways.Ways.{Ways}
use Rattle.rail_compile.specs.Itineraries.{move_over, is_portal, is_signal}

-- the name is one of these
abbrev pub is_among : List (List ℕ) → List ℕ → Bool
is_among names name = list_any (same_name name) names

-- the place of the name among these
abbrev pub place_among : List (List ℕ) → List ℕ → ℕ
place_among names name = unwrap_or (position (same_name name) names) 0

-- the route of this number
abbrev pub route_at : Net → ℕ → Route
route_at net number = get_or net.routes number no_route

-- the section of the step is one of these
abbrev pub is_known_step : List Section → Step → Bool
is_known_step sections step = list_any (is_named step.section) sections

-- the routes of these numbers, in order
abbrev pub routes_at : Net → List ℕ → List Route
routes_at net numbers = map (route_at net) numbers

-- each number is that of a route
abbrev pub are_numbers : Net → List ℕ → Bool
are_numbers net numbers = list_all (λ n. nat_lt n (length net.routes)) numbers

-- what is looked up of a route: the move over it, without a turn, and whether it begins and ends at a portal and ends at
-- a signal
abbrev pub way_over : Net → Route → Way
way_over net route = record {
  row = move_over net route None;
  begins_at_portal = is_portal net route.from;
  ends_at_portal = is_portal net route.to;
  ends_at_signal = is_signal net route.to;
}

-- these are the names of the network's routes, and what is looked up of them, in order
pub record AreWays (net : Net) (ways : Ways) : Type 0 where
  pub names : ways.names.keys ≡ map (λ (route : Route). route.name) net.routes
  pub items : ways.items.items ≡ map (way_over net) net.routes

-- these are the names of the scene's kinds, and what is looked up of its routes
pub record AreLookups (scene : Scene) (lookups : Lookups) : Type 0 where
  pub kinds : lookups.kinds.keys ≡ map (λ (kind : TrainKind). kind.name) scene.kinds
  pub ways : AreWays scene.network lookups.ways

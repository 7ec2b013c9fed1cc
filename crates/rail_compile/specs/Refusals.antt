-- Which scenes are refused when they are compiled, and why first.
use Rattle.std.specs.Prelude.{ℕ, suc, Bool, false, not, List, [], ◌∷◌, ◌++◌, length, Option, option_and_then}
use Rattle.std.specs.List.{list_any, list_all}
use Rattle.std.specs.Option.{option_or}
use Rattle.rail_base.specs.NameForms.{same_name}
use Rattle.rail_base.specs.declared.plant.TrainKind.{TrainKind}
use Rattle.rail_base.specs.declared.refusals.Fault.{Fault}
use Rattle.rail_base.specs.declared.refusals.Fault.TheVariants as fault
use Rattle.rail_base.specs.Refusals.{refusal_in}
use Rattle.rail_base.specs.declared.refusals.Refusal.{Refusal}
use Rattle.rail_base.specs.declared.refusals.Reason.{Reason}
use Rattle.rail_base.specs.declared.refusals.Reason.TheVariants as reason
use Rattle.rail_base.specs.declared.refusals.Part.TheVariants as part
use Rattle.rail_base.specs.FirstRefusals.{Test, first_failing}
use Rattle.rail_routes.specs.declared.items.Route.{Route}
use Rattle.rail_routes.specs.Net.{Net, is_route}
use Rattle.rail_plan.specs.declared.faults.PlanFault.{PlanFault}
use Rattle.rail_plan.specs.declared.faults.PlanFault.TheVariants.{TooLong, SelfBlocked, OutOfMemory}
use Rattle.rail_plan.specs.PlanFaults.{fault_of}
use Rattle.rail_scene.specs.declared.scene.Scene.{Scene}
use Rattle.rail_scene.specs.declared.scene.SceneTrain.{SceneTrain}
use Rattle.rail_compile.specs.Itineraries.{routes_of, is_portal, goes_on_to, tables_of}

-- a refusal of a train of the scene, which counts from 1
abbrev pub of_train : Reason → ℕ → ℕ → Refusal
of_train why item step = record { reason = why; part = part.Train; item = item; step = step }

-- a refusal of the train for this reason at this step, wherever the last argument is true
abbrev pub train_refused : Reason → ℕ → ℕ → Bool → Test Refusal
train_refused why item step fails = record { answer = of_train why item step; fails = fails }

-- a route has this name
abbrev pub is_known : Net → List ℕ → Bool
is_known net name = list_any (is_route name) net.routes

-- so it is with each of the names
abbrev pub are_known : Net → List (List ℕ) → Bool
are_known net names = list_all (is_known net) names

-- the first route begins at a portal
abbrev pub begins_at_portal : Net → List Route → Bool
begins_at_portal net [] = false
begins_at_portal net (route ∷ rest) = is_portal net route.from

-- the last route ends at a portal
abbrev pub ends_at_portal : Net → List Route → Bool
ends_at_portal net [] = false
ends_at_portal net (route ∷ []) = is_portal net route.to
ends_at_portal net (route ∷ next ∷ rest) = ends_at_portal net (next ∷ rest)

-- from each route the train may go on to the next one, at the places from this one on
abbrev pub place_tests : Net → ℕ → ℕ → List Route → List (Test Refusal)
place_tests net item place [] = []
place_tests net item place (route ∷ []) = []
place_tests net item place (route ∷ next ∷ rest) =
    train_refused reason.ItineraryBroken item place (not (goes_on_to net route next)) ∷ place_tests net item (suc place) (next ∷ rest)

-- the tests of the routes of an itinerary
abbrev pub route_tests : Net → ℕ → List Route → List (Test Refusal)
route_tests net item routes =
    train_refused reason.NotPortal item 0 (not (begins_at_portal net routes))
    ∷ place_tests net item 1 routes
    ++ train_refused reason.NotPortal item (length routes) (not (ends_at_portal net routes))
    ∷ []

-- the tests of a train and its itinerary, in their order
abbrev pub train_tests : Scene → ℕ → SceneTrain → List (Test Refusal)
train_tests scene item train =
    train_refused reason.Unknown item 2 (not (list_any (λ (kind : TrainKind). same_name train.kind kind.name) scene.kinds))
    ∷ train_refused reason.Unknown item 5 (not (are_known scene.network train.routes))
    ∷ route_tests scene.network item (routes_of scene.network train.routes)

-- the tests of the trains, which are numbered from this item on
abbrev pub trains_tests : Scene → ℕ → List SceneTrain → List (Test Refusal)
trains_tests scene item [] = []
trains_tests scene item (train ∷ rest) = train_tests scene item train ++ trains_tests scene (suc item) rest

-- the answer for a fault of the plant: the train is refused at the place
abbrev pub fault_for : PlanFault → Fault
fault_for (TooLong t place) = fault.Refused (of_train reason.TooLong (suc t) place)
fault_for (SelfBlocked t place section) = fault.Refused (of_train reason.SelfBlocked (suc t) place)
fault_for OutOfMemory = fault.OutOfMemory

-- why a scene is refused: the first test of a train and its itinerary that fails, train by train, and where none does
-- the first fault of the plant, again train by train
abbrev pub compile_refusal : Scene → Option Refusal
compile_refusal scene =
    option_or (first_failing (trains_tests scene 1 scene.trains))
    (option_and_then (λ why. refusal_in (fault_for why)) (fault_of (tables_of scene)))

-- Reroutings: the scene in which a train takes other routes from where it stands, and the answer to such a proposal.
use Rattle.std.specs.Prelude.{◌≡◌, ℕ, suc, ◌+◌, ◌==◌, ◌<◌, ◌≤◌, Bool, true, false, ◌⊎◌, nat_lt, List, [], ◌++◌, length, get_or, set, take, Option, Some, None, IsTrue}
use Rattle.rail_base.specs.Limits.{most, ItineraryRoutes}
use Rattle.rail_base.specs.declared.refusals.Refusal.{Refusal}
use Rattle.rail_base.specs.declared.refusals.Reason.{Reason}
use Rattle.rail_base.specs.declared.refusals.Reason.TheVariants.{ItineraryBroken, NotPortal, TooLong, SelfBlocked, TooMany}
use Rattle.rail_rules.specs.Analysis.{finds}
use Rattle.rail_rules.specs.Places.{completes, is_valid_state, place_of}
use Rattle.rail_rules.specs.Moves.{Moves}
use Rattle.rail_rules.specs.Plant.{moves, moves_of}
use Rattle.rail_place.specs.Overlaps.{IsOverlap}
use Rattle.rail_scene.specs.declared.scene.Scene.{Scene}
use Rattle.rail_scene.specs.declared.scene.SceneTrain.{SceneTrain}
use Rattle.rail_scene.specs.Scenes.{IsScene}
use Rattle.rail_compile.specs.Itineraries.{plant_of_scene, with_trains}
use Rattle.rail_compile.specs.Refusals.{are_known, compile_refusal, of_train}
use Rattle.rail_reroute.specs.declared.judgements.Judged.{Judged}
use Rattle.rail_reroute.specs.declared.judgements.Judged.TheVariants as judged

-- what stands for a train that the scene doesn't have
abbrev pub no_scene_train : SceneTrain
no_scene_train = record { name = []; kind = []; entry = 0; priority = 0; routes = [] }

-- the train with its itinerary up to the place, and these routes behind it
abbrev pub rerouted_train : SceneTrain → ℕ → List (List ℕ) → SceneTrain
rerouted_train train place routes = record train { routes = take place train.routes ++ routes }

-- the trains, of which one has its itinerary replaced so
abbrev pub rerouted_trains : List SceneTrain → ℕ → ℕ → List (List ℕ) → List SceneTrain
rerouted_trains trains t place routes = set trains t (rerouted_train (get_or trains t no_scene_train) place routes)

-- the scene with these trains: the train goes over the routes from the place on where it stands in the state
abbrev pub rerouted : Scene → List ℕ → ℕ → List (List ℕ) → Scene
rerouted scene s t routes = with_trains scene (rerouted_trains scene.trains t (place_of s t) routes)

-- the train has made all its moves
abbrev pub is_out_at : Scene → List ℕ → ℕ → Bool
is_out_at scene s t = place_of s t == moves (plant_of_scene scene) t

-- the new itinerary has more routes than the limit
abbrev pub is_too_many : List ℕ → ℕ → List (List ℕ) → Bool
is_too_many s t routes = nat_lt (most ItineraryRoutes) (place_of s t + length routes)

-- what a proposal may ask: the scene has a plant, the train is one of its trains and stands at a place before its last,
-- where the new itinerary begins, the places are within the moves of the trains, and the routes are some and known
pub record IsProposed (scene : Scene) (s : List ℕ) (t : ℕ) (routes : List (List ℕ)) : Type 0 where
  pub kept : IsScene scene
  pub compiled : compile_refusal scene ≡ None
  pub train : t < length scene.trains
  pub long : length s ≡ length scene.trains
  pub within : (u : ℕ) → u < length scene.trains → place_of s u ≤ moves (plant_of_scene scene) u
  pub inside : is_out_at scene s t ≡ false
  pub few : is_too_many s t routes ≡ false
  pub some : 0 < length routes
  pub known : IsTrue (are_known scene.network routes)

-- a reason for which an itinerary is refused: it is broken, begins or ends at no portal, or the train is too long for one
-- of its routes or blocks its own way
abbrev pub is_itinerary_reason : Reason → Bool
is_itinerary_reason ItineraryBroken = true
is_itinerary_reason NotPortal = true
is_itinerary_reason TooLong = true
is_itinerary_reason SelfBlocked = true
is_itinerary_reason _ = false

-- the refusal is of this train, for its itinerary, at a place of it, which is within the limit
pub record IsItineraryRefusal (t : ℕ) (refusal : Refusal) : Type 0 where
  pub told : refusal ≡ of_train refusal.reason (suc t) refusal.step
  pub itinerary : IsTrue (is_itinerary_reason refusal.reason)
  pub place : refusal.step ≤ most ItineraryRoutes

-- the refusal is of this train, for its itinerary, at this place of it
pub record IsRefusedFor (first : Option Refusal) (t : ℕ) (why : Reason) (place : ℕ) : Type 0 where
  pub told : first ≡ Some (of_train why (suc t) place)
  pub itinerary : IsTrue (is_itinerary_reason why)

-- the new itinerary has too many routes, which is told at no place
pub record IsTooMany (s : List ℕ) (t : ℕ) (routes : List (List ℕ)) (why : Reason) (place : ℕ) : Type 0 where
  pub many : IsTrue (is_too_many s t routes)
  pub told : why ≡ TooMany
  pub nowhere : place ≡ 0

-- the new itinerary has not too many routes, and the rerouted scene is refused for it
pub record IsRefusedItinerary (scene : Scene) (s : List ℕ) (t : ℕ) (routes : List (List ℕ)) (why : Reason) (place : ℕ) : Type 0 where
  pub few : is_too_many s t routes ≡ false
  pub refused : IsRefusedFor (compile_refusal (rerouted scene s t routes)) t why place

-- the train is not out, and the rerouted scene has a plant
pub record IsRerouted (scene : Scene) (s : List ℕ) (t : ℕ) (routes : List (List ℕ)) : Type 0 where
  pub inside : is_out_at scene s t ≡ false
  pub few : is_too_many s t routes ≡ false
  pub compiles : compile_refusal (rerouted scene s t routes) ≡ None

-- what a state of moves leads to by so many free legs, by its answer: two trains hold one section; no list of legs brings
-- every train inside to its exit; or this list does
abbrev pub LeadsTo : Moves → ℕ → List ℕ → Judged → Type 0
LeadsTo plan depth s judged.Out = ⊥
LeadsTo plan depth s (judged.Refused why place) = ⊥
LeadsTo plan depth s (judged.Overlap x first second) = IsOverlap plan s x first second
LeadsTo plan depth s judged.NoList = IsTrue (is_valid_state plan s) × (finds plan depth s ≡ false)
LeadsTo plan depth s (judged.List list) = IsTrue (is_valid_state plan s) × IsTrue (finds plan depth s) × IsTrue (completes plan s list)

-- the answer to the proposal that the train takes these routes from where it stands in the state: each is the first that
-- applies, since it says that none before it does
abbrev pub IsJudged : Scene → List ℕ → ℕ → List (List ℕ) → Judged → Type 0
IsJudged scene s t routes judged.Out = IsTrue (is_out_at scene s t)
IsJudged scene s t routes (judged.Refused why place) = (is_out_at scene s t ≡ false)
    × (IsTooMany s t routes why place ⊎ IsRefusedItinerary scene s t routes why place)
IsJudged scene s t routes answer = IsRerouted scene s t routes × LeadsTo (moves_of (plant_of_scene (rerouted scene s t routes))) scene.depth s answer

-- the answer, but for which list it has
abbrev pub without_list : Judged → Judged
without_list (judged.List list) = judged.List []
without_list answer = answer

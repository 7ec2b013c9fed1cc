-- The scene in which a train takes other routes, and its plant.
use Rattle.std.proofs.Common.{◌≡◌, ℕ, zero, suc, ◌+◌, ◌<◌, ◌≤◌, Bool, true, not, ◌&&◌, List, [], ◌∷◌, length, get_or, map, set, take, refl, sym, ap, ◌∙◌, ⊎_elim, arith}
use Rattle.std.specs.Prelude.{nat_le}
use Rattle.std.specs.List.{list_all}
use Rattle.std.proofs.Math.Seq.{map-set_same}
use Rattle.std.proofs.lemmas.Bool.{and_from, and_parts, cases_eq, le-leb, leb-true}
use Rattle.std.proofs.lemmas.List.{get_or-set_other, get_or-set_same, length-append, length-set, length-take}
use Rattle.rail_base.specs.Limits.{is_from_one, most, InputTime, ItineraryRoutes}
use Rattle.rail_base.specs.Lists.{are_distinct}
use Rattle.rail_base.specs.NameForms.{same_name}
use Rattle.rail_rules.specs.Places.{place_of}
use Rattle.rail_rules.specs.Plant.{moves}
use Rattle.rail_scene.specs.Scenes.{IsScene, is_fit_train, is_one_train}
use Rattle.rail_scene.specs.declared.scene.Scene.{Scene}
use Rattle.rail_scene.specs.declared.scene.SceneTrain.{SceneTrain}
use Rattle.rail_track.proofs.CallerLemmas.{list_any-map}
use Rattle.rail_compile.specs.Itineraries.{plant_of_scene}
use Rattle.rail_compile.proofs.CallerLemmas.{all_at}
use Rattle.rail_reroute.specs.Judgements.{IsProposed, no_scene_train, rerouted, rerouted_train}
use Rattle.rail_reroute.proofs.Refused.{few_routes, moves_are}

-- a place within the moves of a train is within the limit of an itinerary
pub place_few : (scene : Scene) (t place : ℕ) → IsScene scene → t < length scene.trains → place ≤ moves (plant_of_scene scene) t → place ≤ most ItineraryRoutes
place_few scene t place h lt le =
    let train : SceneTrain = get_or scene.trains t no_scene_train in
    let fits = and_parts (nat_le train.entry (most InputTime)) (is_from_one (most ItineraryRoutes) (length train.routes)) (all_at is_fit_train scene.trains t no_scene_train h.trains lt) in
    let few : length train.routes ≤ most ItineraryRoutes =
    leb-true (length train.routes) (most ItineraryRoutes) (and_parts (nat_le 1 (length train.routes)) (nat_le (length train.routes) (most ItineraryRoutes)) fits.1).1 in
    omega (arith, le, moves_are scene t lt, few)

-- with one in another's place that passes, too, all do
all_with : {X : Type 0} (test : X → Bool) (xs : List X) (i : ℕ) (x : X) → list_all test xs ≡ true → test x ≡ true → list_all test (set xs i x) ≡ true
all_with test [] i x all one = all
all_with test (y ∷ xs) zero x all one = and_from (test x) (list_all test xs) one (and_parts (test y) (list_all test xs) all).1
all_with test (y ∷ xs) (suc i) x all one =
    let parts = and_parts (test y) (list_all test xs) all in
    and_from (test y) (list_all test (set xs i x)) parts.0 (all_with test xs i x parts.1 one)

abbrev name_of : SceneTrain → List ℕ
name_of train = train.name

-- whether trains have distinct names is told by their names
apart_by_names : (rows : List SceneTrain) → are_distinct is_one_train rows ≡ are_distinct same_name (map name_of rows)
apart_by_names [] = refl
apart_by_names (row ∷ rows) = λ i. not (sym (list_any-map (same_name row.name) name_of rows) i) && apart_by_names rows i

module _ (scene : Scene) (s : List ℕ) (t : ℕ) (routes : List (List ℕ)) (h : IsProposed scene s t routes) where
  abbrev before : SceneTrain
  before = get_or scene.trains t no_scene_train

  abbrev after : SceneTrain
  after = rerouted_train before (place_of s t) routes

  -- the train stands at a place of its itinerary
  pub place_within : place_of s t ≤ length before.routes
  place_within = omega (arith, h.within t h.train, moves_are scene t h.train)

  itinerary : length after.routes ≡ place_of s t + length routes
  itinerary = omega (arith, place_within, length-append (take (place_of s t) before.routes) routes, length-take (place_of s t) before.routes)

  pub fit : is_fit_train after ≡ true
  fit =
      let parts = and_parts (nat_le before.entry (most InputTime)) (is_from_one (most ItineraryRoutes) (length before.routes)) (all_at is_fit_train scene.trains t no_scene_train h.kept.trains h.train) in
      and_from (nat_le after.entry (most InputTime)) (is_from_one (most ItineraryRoutes) (length after.routes)) parts.0
      (within_one (length after.routes) (omega (arith, itinerary, h.some)) (few_routes scene s t routes h))
    where
      within_one : (n : ℕ) → 0 < n → n ≤ most ItineraryRoutes → is_from_one (most ItineraryRoutes) n ≡ true
      within_one n some few = and_from (nat_le 1 n) (nat_le n (most ItineraryRoutes)) (le-leb 1 n (omega (arith, some))) (le-leb n (most ItineraryRoutes) few)

  -- it is a scene as the old one is
  pub is_scene : IsScene (rerouted scene s t routes)
  is_scene = record {
    release = h.kept.release;
    overlap_time = h.kept.overlap_time;
    depth = h.kept.depth;
    few_kinds = h.kept.few_kinds;
    few_trains = omega (arith, h.kept.few_trains, length-set scene.trains t after);
    kinds = h.kept.kinds;
    trains = all_with is_fit_train scene.trains t after h.kept.trains fit;
    kinds_apart = h.kept.kinds_apart;
    trains_apart = apart_by_names (set scene.trains t after)
        ∙ ap (are_distinct same_name) (map-set_same name_of scene.trains t after no_scene_train refl)
        ∙ sym (apart_by_names scene.trains)
        ∙ h.kept.trains_apart;
  }

  pub within_still : (u : ℕ) → u < length scene.trains → place_of s u ≤ moves (plant_of_scene (rerouted scene s t routes)) u
  within_still u lt =
      let count : moves (plant_of_scene (rerouted scene s t routes)) u ≡ length (get_or (set scene.trains t after) u no_scene_train).routes =
      moves_are (rerouted scene s t routes) u (omega (arith, lt, length-set scene.trains t after)) in
      ⊎_elim
      (λ same.
      let here : get_or (set scene.trains t after) u no_scene_train ≡ after =
      ap (λ v. get_or (set scene.trains t after) v no_scene_train) same ∙ get_or-set_same scene.trains t after no_scene_train h.train in
      omega (arith, count, itinerary, ap (λ (row : SceneTrain). length row.routes) here, ap (place_of s) same))
      (λ other.
      let there : get_or (set scene.trains t after) u no_scene_train ≡ get_or scene.trains u no_scene_train = get_or-set_other scene.trains t u after no_scene_train other in
      omega (arith, count, h.within u lt, moves_are scene u lt, ap (λ (row : SceneTrain). length row.routes) there))
      (cases_eq u t)

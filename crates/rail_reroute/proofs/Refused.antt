-- Who is refused where a train takes other routes.
use Rattle.std.proofs.Common.{◌≡◌, ℕ, zero, suc, ◌+◌, ◌<◌, ◌≤◌, Bool, true, ◌&&◌, List, [], ◌∷◌, length, get_or, map, set, take, Option, Some, None, option_and_then, refl, sym, ap, ◌∙◌, subst, arith}
use Rattle.std.specs.List.{list_all}
use Rattle.std.specs.Option.{option_or}
use Rattle.std.proofs.lemmas.Bool.{and_from, and_parts, ltb-false}
use Rattle.std.proofs.lemmas.List.{get_or_default, get_or-map, get_or-set_same, length-append, length-map, length-set, length-take, map-set}
use Rattle.std.proofs.lemmas.List.Folds.{list_all-append}
use Rattle.rail_base.specs.FirstRefusals.{first_failing}
use Rattle.rail_base.specs.Limits.{most, ItineraryRoutes}
use Rattle.rail_base.specs.Refusals.{AnswersFirst, refusal_in}
use Rattle.rail_base.specs.declared.refusals.Fault.{Fault}
use Rattle.rail_base.specs.declared.refusals.Fault.TheVariants as fault
use Rattle.rail_base.specs.declared.plant.TrainRow.{TrainRow}
use Rattle.rail_base.specs.declared.refusals.Reason.TheVariants as reason
use Rattle.rail_base.specs.declared.refusals.Refusal.{Refusal}
use Rattle.rail_rules.specs.Places.{place_of}
use Rattle.rail_rules.specs.Plant.{moves, no_train}
use Rattle.rail_plan.specs.PlanFaults.{IsAnswer, bare, fault_of, fault_of_train}
use Rattle.rail_plan.specs.MoveTables.{row_with}
use Rattle.rail_plan.specs.declared.faults.PlanFault.{PlanFault}
use Rattle.rail_plan.specs.declared.faults.PlanFault.TheVariants.{TooLong, SelfBlocked, OutOfMemory}
use Rattle.rail_routes.specs.declared.items.Route.{Route}
use Rattle.rail_scene.specs.declared.scene.Scene.{Scene}
use Rattle.rail_scene.specs.declared.scene.SceneTrain.{SceneTrain}
use Rattle.rail_compile.specs.Itineraries.{plant_of_scene, route_of, routes_of, tables_of, train_row}
use Rattle.rail_compile.specs.Refusals.{are_known, compile_refusal, fault_for, is_known, route_tests, train_tests, trains_tests}
use Rattle.rail_compile.proofs.CallerLemmas.{IsUnrefused, length-moves_over, train_is, unrefused_at}
use Rattle.rail_reroute.specs.Judgements.{IsItineraryRefusal, IsProposed, no_scene_train, rerouted, rerouted_train}
use Rattle.rail_reroute.proofs.Changed.{IsFaultOf, changed_train, fault_told, fault_within, only_changed, with_row}
use Rattle.rail_reroute.proofs.Itineraries.{both_none, changed_tests, route_told, told_at}

-- what a fault of the tables is refused as
abbrev pub refusal_for : Option PlanFault → Option Refusal
refusal_for fault = option_and_then (λ why. refusal_in (fault_for why)) fault

-- a fault that is one of a train is refused
no_fault : (fault : Option PlanFault) → ((why : PlanFault) → fault ≡ Some why → (t : ℕ) × (last : ℕ) × IsFaultOf t last why) → refusal_for fault ≡ None → fault ≡ None
no_fault None told none = refl
no_fault (Some (TooLong u place)) told none = cc
no_fault (Some (SelfBlocked u place x)) told none = cc
no_fault (Some OutOfMemory) told none = absurd (told OutOfMemory refl).2

-- a train of the plant has a move for each route of its itinerary
pub moves_are : (scene : Scene) (t : ℕ) → t < length scene.trains → moves (plant_of_scene scene) t ≡ length (get_or scene.trains t no_scene_train).routes
moves_are scene t lt =
    let train : SceneTrain = get_or scene.trains t no_scene_train in
    ap (λ (row : TrainRow). length row.moves) (get_or-map (train_row scene) scene.trains t no_scene_train no_train lt)
    ∙ length-moves_over scene.network (routes_of scene.network train.routes)
    ∙ length-map train.routes (route_of scene.network)

-- what all pass, the first ones pass
all_of_front : {X : Type 0} (test : X → Bool) (xs : List X) (n : ℕ) → list_all test xs ≡ true → list_all test (take n xs) ≡ true
all_of_front test xs zero all = refl
all_of_front test [] (suc n) all = refl
all_of_front test (x ∷ xs) (suc n) all =
    let parts = and_parts (test x) (list_all test xs) all in
    and_from (test x) (list_all test (take n xs)) parts.0 (all_of_front test xs n parts.1)

module _ (scene : Scene) (s : List ℕ) (t : ℕ) (routes : List (List ℕ)) (h : IsProposed scene s t routes) where
  abbrev before : SceneTrain
  before = get_or scene.trains t no_scene_train

  abbrev pub after : SceneTrain
  after = rerouted_train before (place_of s t) routes

  abbrev pub changed : Scene
  changed = rerouted scene s t routes

  -- the new itinerary is within the limit
  pub few_routes : length after.routes ≤ most ItineraryRoutes
  few_routes =
      let few : place_of s t + length routes ≤ most ItineraryRoutes = ltb-false (most ItineraryRoutes) (place_of s t + length routes) h.few in
      omega (arith, few, length-append (take (place_of s t) before.routes) routes, length-take (place_of s t) before.routes)

  neither : (first_failing (trains_tests scene 1 scene.trains) ≡ None) × (refusal_for (fault_of (tables_of scene)) ≡ None)
  neither = both_none (first_failing (trains_tests scene 1 scene.trains)) (refusal_for (fault_of (tables_of scene))) h.compiled

  known : IsUnrefused scene before
  known = unrefused_at scene 1 scene.trains t before neither.0 h.train (get_or_default scene.trains t no_scene_train before h.train)

  pub all_known : are_known scene.network after.routes ≡ true
  all_known =
      let front : are_known scene.network (take (place_of s t) before.routes) ≡ true = all_of_front (is_known scene.network) before.routes (place_of s t) known.routes in
      list_all-append (is_known scene.network) (take (place_of s t) before.routes) routes
      ∙ (λ i. front i && h.known i)

  -- the first test that fails is one of the new itinerary
  tests_told : (r : Refusal) → first_failing (trains_tests changed 1 changed.trains) ≡ Some r → IsItineraryRefusal t r
  tests_told r is =
      let itinerary : List Route = routes_of scene.network after.routes in
      let count : length itinerary ≡ length after.routes = length-map after.routes (route_of scene.network) in
      let number : suc t ≡ 1 + t = omega arith in
      route_told scene.network t itinerary r (omega (arith, few_routes, count))
      (ap (λ n. first_failing (route_tests scene.network n itinerary)) number
      ∙ sym (train_is scene (1 + t) after true true (sym known.kind) (sym all_known))
      ∙ sym (changed_tests scene changed.trains 1 scene.trains t after neither.0 h.train)
      ∙ is)

  pub same_tables : tables_of changed ≡ with_row (tables_of scene) t (train_row scene after)
  same_tables = ap (λ (rows : List TrainRow). record (tables_of scene) { trains = rows }) (map-set (train_row scene) scene.trains t after)

  -- the first fault of the new tables is one of the train
  fault_own : (why : PlanFault) → fault_of (tables_of changed) ≡ Some why → IsFaultOf t (most ItineraryRoutes) why
  fault_own why is =
      let row : TrainRow = train_row scene after in
      let silent = no_fault (fault_of (tables_of scene)) (fault_told (tables_of scene)) neither.1 in
      let own = changed_train (tables_of scene) t row silent why (ap fault_of (sym same_tables) ∙ is) in
      let here : get_or (set (map (train_row scene) scene.trains) t row) t no_train ≡ row =
      get_or-set_same (map (train_row scene) scene.trains) t row no_train (omega (arith, h.train, length-map scene.trains (train_row scene))) in
      let count : length row.moves ≡ length after.routes = length-moves_over scene.network (routes_of scene.network after.routes) ∙ length-map after.routes (route_of scene.network) in
      fault_within t (moves (bare (with_row (tables_of scene) t row)) t) (most ItineraryRoutes) why
      (omega (arith, few_routes, count, ap (λ (r : TrainRow). length r.moves) here)) own

  told_by : (r : Refusal) (first : Option Refusal) (fault : Option PlanFault) → (first ≡ Some r → IsItineraryRefusal t r)
      → ((why : PlanFault) → fault ≡ Some why → IsFaultOf t (most ItineraryRoutes) why) → option_or first (refusal_for fault) ≡ Some r → IsItineraryRefusal t r
  told_by r (Some x) fault tests faults is = tests is
  told_by r None None tests faults is = cc
  told_by r None (Some (TooLong u place)) tests faults is =
      let own = faults (TooLong u place) refl in
      subst (λ v. IsItineraryRefusal v r) own.0 (told_at u reason.TooLong place r refl own.1 is)
  told_by r None (Some (SelfBlocked u place x)) tests faults is =
      let own = faults (SelfBlocked u place x) refl in
      subst (λ v. IsItineraryRefusal v r) own.0 (told_at u reason.SelfBlocked place r refl own.1 is)
  told_by r None (Some OutOfMemory) tests faults is = absurd (faults OutOfMemory refl)

  -- where the scene with the new itinerary is refused, the train is, for it
  pub refused : (r : Refusal) → compile_refusal changed ≡ Some r → IsItineraryRefusal t r
  refused r is = told_by r (first_failing (trains_tests changed 1 changed.trains)) (fault_of (tables_of changed)) (tests_told r) fault_own is

  -- the first test that fails is the first one of the train
  pub tests_are : first_failing (trains_tests changed 1 changed.trains) ≡ first_failing (train_tests scene (suc t) after)
  tests_are = let number : 1 + t ≡ suc t = omega arith in
      changed_tests scene changed.trains 1 scene.trains t after neither.0 h.train ∙ ap (λ n. first_failing (train_tests scene n after)) number

  -- where none does, the scene is refused for the first fault of its tables
  pub refusal_is : first_failing (train_tests scene (suc t) after) ≡ None → compile_refusal changed ≡ refusal_for (fault_of (tables_of changed))
  refusal_is none = ap (λ o. option_or o (refusal_for (fault_of (tables_of changed)))) (tests_are ∙ none)

  -- where one does, the scene is refused by it
  pub refused_first : (fault : Fault) → AnswersFirst (first_failing (train_tests scene (suc t) after)) fault → AnswersFirst (compile_refusal changed) fault
  refused_first (fault.Refused refusal) told = ap (λ o. option_or o (refusal_for (fault_of (tables_of changed)))) (tests_are ∙ told)
  refused_first fault.OutOfMemory told = tt

  -- the tables have no fault but one of the train
  pub own_fault : fault_of (with_row (tables_of scene) t (train_row scene after)) ≡ fault_of_train (bare (with_row (tables_of scene) t (train_row scene after))) t
  own_fault = only_changed (tables_of scene) t (train_row scene after) (no_fault (fault_of (tables_of scene)) (fault_told (tables_of scene)) neither.1)
      (omega (arith, h.train, length-map scene.trains (train_row scene)))

  -- where no test fails, the scene is refused for the first fault of the train
  pub told_fault : first_failing (train_tests scene (suc t) after) ≡ None
      → compile_refusal changed ≡ refusal_for (fault_of_train (bare (with_row (tables_of scene) t (train_row scene after))) t)
  told_fault none = refusal_is none ∙ ap refusal_for (ap fault_of same_tables ∙ own_fault)

  -- what answers the fault answers the refusal
  pub fault_answers : (why : PlanFault) → first_failing (train_tests scene (suc t) after) ≡ None
      → IsAnswer (fault_of_train (bare (with_row (tables_of scene) t (train_row scene after))) t) why → AnswersFirst (compile_refusal changed) (fault_for why)
  fault_answers (TooLong u place) none is = told_fault none ∙ ap refusal_for is
  fault_answers (SelfBlocked u place x) none is = told_fault none ∙ ap refusal_for is
  fault_answers OutOfMemory none is = tt

  -- the row of the train with the moves of the new itinerary
  pub row_rerouted : row_with (tables_of scene) t (train_row scene after).moves ≡ train_row scene after
  row_rerouted = ap (λ (row : TrainRow). record row { moves = (train_row scene after).moves }) (get_or-map (train_row scene) scene.trains t no_scene_train no_train h.train)

  -- the train has a known kind and known routes, and goes out
  pub unrefused : first_failing (train_tests scene (suc t) after) ≡ None → IsUnrefused changed after
  unrefused none =
      let rows : List SceneTrain = set scene.trains t after in
      let at : after ≡ get_or rows t after = sym (get_or-set_same scene.trains t after after h.train) in
      unrefused_at changed 1 rows t after (tests_are ∙ none) (omega (arith, h.train, length-set scene.trains t after)) at

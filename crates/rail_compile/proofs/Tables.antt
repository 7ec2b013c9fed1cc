-- The tables of a scene can be planned.
use Rattle.std.proofs.Common.{◌≡◌, ℕ, ◌-◌, ◌<◌, Bool, true, not, ◌&&◌, leb, List, [], ◌∷◌, length, get_or, map, is_some, option_and_then, Option, Some, None, refl, sym, ap, ◌∙◌, subst, arith}
use Rattle.std.specs.Prelude.{◌==◌}
use Rattle.std.specs.List.{find, list_any, list_all}
use Rattle.std.proofs.lemmas.Bool.{and_parts, and_from}
use Rattle.std.proofs.lemmas.List.{length-map, get_or-map, get_or_default}
use Rattle.rail_base.specs.NameForms.{is_name, same_name}
use Rattle.rail_base.specs.declared.limits.TheConstants.{SECTION_LENGTH, SPEED, TRAIN_LENGTH, START, STOP, INPUT_TIME, ITINERARY_ROUTES}
use Rattle.rail_base.specs.declared.plant.SectionRow.{SectionRow}
use Rattle.rail_base.specs.declared.plant.TrainRow.{TrainRow}
use Rattle.rail_base.specs.declared.plant.TrainKind.{TrainKind}
use Rattle.rail_rules.specs.Plant.{no_kind, no_train, no_move, train}
use Rattle.rail_base.specs.Limits.{is_from_one}
use Rattle.rail_rules.specs.Accepted.{are_distinct_names, is_section_in_range, is_kind_in_range, is_move_in_range, is_train_in_range}
use Rattle.rail_rules.proofs.CallerLemmas.{all_below_from}
use Rattle.rail_track.specs.declared.section.Section.{Section}
use Rattle.rail_track.specs.SectionRules.{joint_count, stands_twice}
use Rattle.rail_track.specs.SoundTracks.{is_fit}
use Rattle.rail_base.specs.FirstRefusals.{first_failing}
use Rattle.rail_routes.specs.declared.items.Route.{Route}
use Rattle.rail_routes.specs.Net.{Net, is_route, no_route}
use Rattle.rail_routes.specs.SoundNetworks.{is_sound_route, IsSoundNetwork}
use Rattle.rail_base.specs.Refusals.{AnswersFirst, refusal_in}
use Rattle.rail_plan.specs.declared.faults.PlanFault.{PlanFault}
use Rattle.rail_plan.specs.declared.faults.PlanFault.TheVariants.{TooLong, SelfBlocked, OutOfMemory}
use Rattle.rail_plan.specs.PlanFaults.{IsAnswer, IsPlannable, bare, fault_of}
use Rattle.rail_scene.specs.declared.scene.Scene.{Scene}
use Rattle.rail_scene.specs.declared.scene.SceneTrain.{SceneTrain}
use Rattle.rail_scene.specs.Scenes.{is_fit_kind, is_fit_train, IsScene}
use Rattle.rail_compile.specs.Itineraries.{route_of, routes_of, kind_of, section_row, train_row, tables_of}
use Rattle.rail_compile.specs.Refusals.{is_known, are_known, trains_tests, fault_for, compile_refusal}
use Rattle.rail_compile.specs.RowTypes.{is_named_row, is_typed_row}
use Rattle.rail_compile.proofs.Finds.{is_some-find, found_passes, all_at, some_unwrapped}
use Rattle.rail_compile.proofs.Names.{distinct_from_apart}
use Rattle.rail_compile.proofs.Moves.{moves_fine, length-moves_over, last_over, last_turn}
use Rattle.rail_compile.proofs.Places.{or-none}
use Rattle.rail_compile.proofs.Trains.{IsUnrefused, unrefused_at}

-- names as a map of a map
names_of_rows : {X Y : Type 0} (f : X → Y) (name : Y → List ℕ) (xs : List X) → map name (map f xs) ≡ map (λ x. name (f x)) xs
names_of_rows f name [] = refl
names_of_rows f name (x ∷ xs) = ap (λ rest. name (f x) ∷ rest) (names_of_rows f name xs)

-- the section of a sound track is fine
sections_fine : (sections : List Section) → list_all is_fit sections ≡ true → list_all is_named_row (map section_row sections) ≡ true → list_all is_section_in_range (map section_row sections) ≡ true
sections_fine [] fit named = refl
sections_fine (section ∷ rest) fit named =
    let fits = and_parts (is_fit section) (list_all is_fit rest) fit in
    let names = and_parts (is_name section.name) (list_all is_named_row (map section_row rest)) named in
    let long : Bool = is_from_one SECTION_LENGTH section.length in
    let fast : Bool = is_from_one SPEED section.speed in
    let joined : Bool = length section.joints == joint_count section.kind in
    let once : Bool = not (list_any (stands_twice section.joints) section.joints) in
    let three = and_parts (long && fast && joined) once fits.0 in
    let two = and_parts (long && fast) joined three.0 in
    let one = and_parts long fast two.0 in
    and_from (is_section_in_range (section_row section)) (list_all is_section_in_range (map section_row rest))
    (and_from (is_name section.name && is_from_one SECTION_LENGTH section.length) (is_from_one SPEED section.speed)
    (and_from (is_name section.name) (is_from_one SECTION_LENGTH section.length) names.0 one.0)
    one.1)
    (sections_fine rest fits.1 names.1)

-- known routes of a sound network are sound
routes_sound : (net : Net) → IsSoundNetwork net → (names : List (List ℕ)) → are_known net names ≡ true → list_all (is_sound_route net) (routes_of net names) ≡ true
routes_sound net h [] known = refl
routes_sound net h (name ∷ rest) known =
    let parts = and_parts (is_known net name) (are_known net rest) known in
    let found : find (is_route name) net.routes ≡ Some (route_of net name) = some_unwrapped (find (is_route name) net.routes) no_route (is_some-find (is_route name) net.routes ∙ parts.0) in
    and_from (is_sound_route net (route_of net name)) (list_all (is_sound_route net) (routes_of net rest))
    (found_passes (is_route name) (is_sound_route net) net.routes (route_of net name) found h.routes)
    (routes_sound net h rest parts.1)

-- a kind that a scene has is fine
kind_fine : (kinds : List TrainKind) (name : List ℕ) → list_all is_fit_kind kinds ≡ true → list_any (λ (k : TrainKind). same_name name k.name) kinds ≡ true → is_kind_in_range (kind_of kinds name) ≡ true
kind_fine kinds name fit known =
    let kind : TrainKind = kind_of kinds name in
    let test : TrainKind → Bool = λ k. same_name name k.name in
    let found : find test kinds ≡ Some kind = some_unwrapped (find test kinds) no_kind (is_some-find test kinds ∙ known) in
    let long : Bool = is_from_one TRAIN_LENGTH kind.length in
    let fast : Bool = is_from_one SPEED kind.speed in
    let start : Bool = leb kind.start START in
    let stop : Bool = leb kind.stop STOP in
    let three = and_parts (long && fast && start) stop (found_passes test is_fit_kind kinds kind found fit) in
    let two = and_parts (long && fast) start three.0 in
    let one = and_parts long fast two.0 in
    and_from (is_from_one TRAIN_LENGTH kind.length && is_from_one SPEED kind.speed && start) stop
    (and_from (is_from_one TRAIN_LENGTH kind.length && is_from_one SPEED kind.speed) start
    (and_from (is_from_one TRAIN_LENGTH kind.length) (is_from_one SPEED kind.speed) one.0 one.1)
    two.1)
    three.1

-- a train that is not refused is fine
module _ (scene : Scene) (h : IsScene scene) (sound : IsSoundNetwork scene.network) where
  pub row_fine : (t : ℕ) (given : SceneTrain) → train (bare (tables_of scene)) t ≡ train_row scene given → IsUnrefused scene given → is_fit_train given ≡ true → is_typed_row (train_row scene given) ≡ true → is_train_in_range (bare (tables_of scene)) t ≡ true
  row_fine t given at unrefused fit typed =
      let net : Net = scene.network in
      let row : TrainRow = train_row scene given in
      let n : ℕ = length (map section_row net.sections) in
      let routes : List Route = routes_of net given.routes in
      let fits = and_parts (leb given.entry INPUT_TIME) (is_from_one ITINERARY_ROUTES (length given.routes)) fit in
      let types = and_parts (is_name row.name) (leb row.priority 255) typed in
      let count : length row.moves ≡ length given.routes = length-moves_over net routes ∙ length-map given.routes (route_of net) in
      let moves_are : list_all (is_move_in_range n) row.moves ≡ true =
      ap (λ k. list_all (is_move_in_range k) row.moves) (length-map net.sections section_row) ∙ moves_fine net sound routes (routes_sound net sound given.routes unrefused.routes) in
      let P : TrainRow → Type 0 = λ r. (is_name r.name && is_kind_in_range r.kind && leb r.entry INPUT_TIME && leb r.priority 255
      && is_from_one ITINERARY_ROUTES (length r.moves) && list_all (is_move_in_range n) r.moves && not (is_some (get_or r.moves (length r.moves - 1) no_move).turn)
      && (length (get_or r.moves (length r.moves - 1) no_move).overlap == 0)) ≡ true in
      let b1 : Bool = is_name row.name in
      let b2 : Bool = is_kind_in_range row.kind in
      let b3 : Bool = leb row.entry INPUT_TIME in
      let b4 : Bool = leb row.priority 255 in
      let b5 : Bool = is_from_one ITINERARY_ROUTES (length row.moves) in
      let b6 : Bool = list_all (is_move_in_range n) row.moves in
      let b7 : Bool = not (is_some (get_or row.moves (length row.moves - 1) no_move).turn) in
      let b8 : Bool = length (get_or row.moves (length row.moves - 1) no_move).overlap == 0 in
      let p2 = and_from b1 b2 types.0 (kind_fine scene.kinds given.kind h.kinds unrefused.kind) in
      let p3 = and_from (b1 && b2) b3 p2 fits.0 in
      let p4 = and_from (b1 && b2 && b3) b4 p3 types.1 in
      let p5 = and_from (b1 && b2 && b3 && b4) b5 p4 (ap (is_from_one ITINERARY_ROUTES) count ∙ fits.1) in
      let p6 = and_from (b1 && b2 && b3 && b4 && b5) b6 p5 moves_are in
      let p7 = and_from (b1 && b2 && b3 && b4 && b5 && b6) b7 p6 (last_turn net routes) in
      subst P (sym at) (and_from (b1 && b2 && b3 && b4 && b5 && b6 && b7) b8 p7 (last_over net routes (routes_sound net sound given.routes unrefused.routes) unrefused.ends))

  pub plannable : first_failing (trains_tests scene 1 scene.trains) ≡ None → list_all is_named_row (map section_row scene.network.sections) ≡ true → list_all is_typed_row (map (train_row scene) scene.trains) ≡ true → IsPlannable (tables_of scene)
  plannable none named typed =
      let sections : List Section = scene.network.sections in
      let count : length (map (train_row scene) scene.trains) ≡ length scene.trains = length-map scene.trains (train_row scene) in
      record {
        few_sections = omega (arith, length-map sections section_row, sound.distinct.track.few);
        few_trains = omega (arith, count, h.few_trains);
        release = h.release;
        overlap_time = h.overlap_time;
        depth = h.depth;
        sections = sections_fine sections sound.distinct.track.fit named;
        section_names = ap are_distinct_names (names_of_rows section_row (λ (row : SectionRow). row.name) sections) ∙ distinct_from_apart (λ (section : Section). section.name) sections sound.distinct.track.distinct;
        train_names = ap are_distinct_names (names_of_rows (train_row scene) (λ (row : TrainRow). row.name) scene.trains) ∙ distinct_from_apart (λ (given : SceneTrain). given.name) scene.trains h.trains_apart;
        trains = all_below_from (is_train_in_range (bare (tables_of scene))) (length (map (train_row scene) scene.trains)) (λ t lt.
            let within : t < length scene.trains = omega (arith, count) in
            let given : SceneTrain = get_or scene.trains t no_scene_train in
            let same : given ≡ get_or scene.trains t given = get_or_default scene.trains t no_scene_train given within in
            row_fine t given (get_or-map (train_row scene) scene.trains t no_scene_train no_train within)
            (unrefused_at scene 1 scene.trains t given none within same)
            (all_at is_fit_train scene.trains t no_scene_train h.trains within)
            (ap is_typed_row (sym (get_or-map (train_row scene) scene.trains t no_scene_train no_train within)) ∙ all_at is_typed_row (map (train_row scene) scene.trains) t no_train typed lt));
      }
    where
      no_scene_train : SceneTrain
      no_scene_train = record { name = []; kind = []; entry = 0; priority = 0; routes = [] }

-- where no train is refused, the scene is refused for a fault of its tables
told_of_plan : (scene : Scene) (first : Option PlanFault) → first_failing (trains_tests scene 1 scene.trains) ≡ None → fault_of (tables_of scene) ≡ first → compile_refusal scene ≡ option_and_then (λ why. refusal_in (fault_for why)) first
told_of_plan scene first none is =
    or-none (first_failing (trains_tests scene 1 scene.trains)) (option_and_then (λ why. refusal_in (fault_for why)) (fault_of (tables_of scene))) (ap is_some none)
    ∙ ap (option_and_then (λ why. refusal_in (fault_for why))) is

pub answers_plan : (scene : Scene) (fault : PlanFault) → first_failing (trains_tests scene 1 scene.trains) ≡ None → IsAnswer (fault_of (tables_of scene)) fault → AnswersFirst (compile_refusal scene) (fault_for fault)
answers_plan scene (TooLong t place) none is = told_of_plan scene (Some (TooLong t place)) none is
answers_plan scene (SelfBlocked t place section) none is = told_of_plan scene (Some (SelfBlocked t place section)) none is
answers_plan scene OutOfMemory none is = tt

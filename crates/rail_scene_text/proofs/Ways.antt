-- The tables of turns and routes have their forms and values, and spell them; those of a sound network pass in order.
use Rattle.std.proofs.Common.{◌≡◌, ℕ, ◌+◌, ◌/◌, ◌%◌, ◌==◌, nat_le, true, false, not, cond, ◌&&◌, ◌||◌, List, [], ◌∷◌, ◌++◌, length, Option, Some, None, map, unwrap_or, refl, sym, ap, ◌∙◌, arith}
use Rattle.std.specs.List.{list_all, list_any}
use Rattle.std.proofs.lemmas.Bool.{and_parts}
use Rattle.toml.specs.Data.{string}
use Rattle.toml.specs.View.{items_of}
use Rattle.rail_base.specs.FirstRefusals.{first_failing}
use Rattle.rail_base.specs.Limits.{is_from_one, most, TurnTime, RouteSections, OverlapSections}
use Rattle.rail_base.specs.NameForms.{is_name, same_name}
use Rattle.rail_base.specs.declared.refusals.Reason.TheVariants.{WrongKind}
use Rattle.rail_base.proofs.CallerLemmas.{none_failing, all_passed}
use Rattle.rail_track.specs.declared.section.NetFault.TheVariants.{Refused}
use Rattle.rail_track.specs.declared.section.Section.{Section}
use Rattle.rail_track.specs.Passages.{has_passage}
use Rattle.rail_track.proofs.CallerLemmas.{same_from_name}
use Rattle.rail_routes.specs.declared.items.Post.{Post}
use Rattle.rail_routes.specs.declared.items.Turn.{Turn}
use Rattle.rail_routes.specs.declared.items.Step.{Step}
use Rattle.rail_routes.specs.declared.items.Route.{Route}
use Rattle.rail_routes.specs.Net.{Net, posts, is_post, post_named, guards}
use Rattle.rail_routes.specs.TurnRules.{turns_well, turn_tests}
use Rattle.rail_routes.specs.RouteRules.{begins, leads_on, leads_from, goes_on, ends, is_beyond, route_tests}
use Rattle.rail_routes.specs.SoundNetworks.{IsSoundNetwork, is_sound_turn, is_sound_route, lead_to, lead_on, is_sound_path, is_sound_overlap, lead_between}
use Rattle.rail_routes.proofs.CallerLemmas.{turn_after, route_after, well_led}
use Rattle.rail_scene.specs.declared.keys.KeyName.TheVariants as word
use Rattle.rail_scene.specs.declared.keys.ListPart.TheVariants as part
use Rattle.rail_scene.specs.declared.versions.Version.TheVariants.{Two}
use Rattle.rail_scene.specs.Entries.{turn_of, route_of, steps_from, steps_of, steps_behind}
use Rattle.rail_scene.specs.Fields.{name_at, number_at, elements_at, listed, names_in, is_path_count, is_overlap_count}
use Rattle.rail_scene.specs.Forms.{form_tests}
use Rattle.rail_scene.specs.Keys.{key_of, keys_of}
use Rattle.rail_scene.specs.SceneItems.{SceneItems, item_tests, with_items}
use Rattle.rail_scene.specs.Values.{value_tests}
use Rattle.rail_scene_text.specs.Tables.{turn_data, route_data, path_of, overlap_of}
use Rattle.rail_scene_text.specs.FieldTypes.{is_typed_turn, is_typed_route}
use Rattle.rail_scene_text.proofs.Lists.{item_none}
use Rattle.rail_scene_text.proofs.Reading.{found, name_is, number_is, from_zero, names_listed, names_are, names_count, strings}

-- turns
abbrev pub GoodTurn : Net → Turn → Type 0
GoodTurn net turn = (is_typed_turn turn ≡ true) × (is_sound_turn net turn ≡ true)

module _ (net : Net) (turn : Turn) (good : GoodTurn net turn) where
  record TurnParts : Type 0 where
    arriving : is_name turn.arriving ≡ true
    leaving : is_name turn.leaving ≡ true
    timed : nat_le turn.time (most TurnTime) ≡ true

  turn_parts : TurnParts
  turn_parts =
      let (arriving, leaving) = and_parts (is_name turn.arriving) (is_name turn.leaving) good.0 in
      let (known, well) = and_parts (nat_le turn.time (most TurnTime) && list_any (is_post turn.arriving) (posts net)) (turns_well net turn) good.1 in
      let (timed, there) = and_parts (nat_le turn.time (most TurnTime)) (list_any (is_post turn.arriving) (posts net)) known in
      record { arriving = arriving; leaving = leaving; timed = timed }

  pub turn_read : turn_of (turn_data turn) ≡ turn
  turn_read = λ i. record {
    arriving = unwrap_or (name_is turn.arriving turn_parts.arriving i) [];
    leaving = unwrap_or (name_is turn.leaving turn_parts.leaving i) [];
    time = unwrap_or (number_is 0 (most TurnTime) 0 turn.time (from_zero (most TurnTime) turn.time turn_parts.timed) i) 0;
  }

  pub turn_form : first_failing (form_tests (keys_of part.Turn Two) (turn_data turn)) ≡ None
  turn_form = refl

  pub turn_values : first_failing (value_tests 1 (keys_of part.Turn Two) (turn_data turn)) ≡ None
  turn_values =
      let d = turn_data turn in
      none_failing (value_tests 1 (keys_of part.Turn Two) d) (
        found (name_at (key_of word.Arriving) d) turn.arriving (name_is turn.arriving turn_parts.arriving),
        (
          found (name_at (key_of word.Leaving) d) turn.leaving (name_is turn.leaving turn_parts.leaving),
          (found (number_at (key_of word.Time) d) turn.time (number_is 0 (most TurnTime) 0 turn.time (from_zero (most TurnTime) turn.time turn_parts.timed)), tt),
        ),
      )

-- routes
abbrev pub GoodRoute : Net → Route → Type 0
GoodRoute net route = (is_typed_route route ≡ true) × (is_sound_route net route ≡ true)

-- the path of steps that lead on is read as the steps
module _ (sections : List Section) (end : Post) where
  steps_read : (joint : List ℕ) (steps : List Step) → lead_to sections end joint steps ≡ true → steps_from joint (overlap_of steps) ≡ steps
  steps_read joint [] leads = refl
  steps_read joint (step ∷ rest) leads =
      let (on, more) = and_parts (leads_on sections end joint step rest) (lead_to sections end step.to rest) leads in
      let (there, next) = and_parts (same_name joint step.from && has_passage sections step.section step.from step.to) (goes_on rest || ends end step) on in
      let (here, passes) = and_parts (same_name joint step.from) (has_passage sections step.section step.from step.to) there in
      let same = same_from_name joint step.from here in
      λ i. record { section = step.section; from = same i; to = step.to } ∷ steps_read step.to rest more i

  path_read : (joint : List ℕ) (steps : List Step) → lead_to sections end joint steps ≡ true → steps_of (path_of steps) ≡ steps
  path_read joint [] leads = refl
  path_read joint (step ∷ rest) leads =
      let (on, more) = and_parts (leads_on sections end joint step rest) (lead_to sections end step.to rest) leads in
      ap (λ steps. record { section = step.section; from = step.from; to = step.to } ∷ steps) (steps_read step.to rest more)

-- the overlap of steps that lead on is read as the steps
module _ (sections : List Section) where
  beyond_read : (joint : List ℕ) (steps : List Step) → lead_on sections joint steps ≡ true → steps_from joint (overlap_of steps) ≡ steps
  beyond_read joint [] leads = refl
  beyond_read joint (step ∷ rest) leads =
      let (there, more) = and_parts (leads_from sections joint step) (lead_on sections step.to rest) leads in
      let (here, passes) = and_parts (same_name joint step.from) (has_passage sections step.section step.from step.to) there in
      let same = same_from_name joint step.from here in
      λ i. record { section = step.section; from = same i; to = step.to } ∷ beyond_read step.to rest more i

  -- steps that lead to a post end at its joint
  ended : (end : Post) (joint : List ℕ) (step : Step) (rest : List Step) (names : List (List ℕ)) → lead_to sections end joint (step ∷ rest) ≡ true
      → steps_behind (step ∷ rest) names ≡ steps_from end.joint names
  ended end joint step [] names leads =
      let (on, more) = and_parts (leads_on sections end joint step []) true leads in
      let (there, last) = and_parts (leads_from sections joint step) (ends end step) on in
      let (here, other) = and_parts (same_name end.joint step.to) (not (guards step.section end)) last in
      ap (λ j. steps_from j names) (sym (same_from_name end.joint step.to here))
  ended end joint step (next ∷ rest) names leads =
      let (on, more) = and_parts (leads_on sections end joint step (next ∷ rest)) (lead_to sections end step.to (next ∷ rest)) leads in
      ended end step.to next rest names more

  behind_read : (begin end : Post) (steps overlap : List Step) → is_sound_path sections begin end steps ≡ true → is_sound_overlap sections end overlap ≡ true
      → steps_behind steps (overlap_of overlap) ≡ overlap
  behind_read begin end [] overlap path over = cc
  behind_read begin end (step ∷ rest) overlap path over =
      let (first, leads) = and_parts (begins begin sections (step ∷ rest)) (lead_to sections end begin.joint (step ∷ rest)) path in
      let (within, on) = and_parts (not (is_beyond end.role overlap)) (lead_on sections end.joint overlap) over in
      ended end begin.joint step rest (overlap_of overlap) leads ∙ beyond_read end.joint overlap on

path_between : (sections : List Section) (a b : Option Post) (steps overlap : List Step) → lead_between sections a b steps overlap ≡ true → steps_of (path_of steps) ≡ steps
path_between sections None b steps overlap h = cc
path_between sections (Some x) None steps overlap h = cc
path_between sections (Some x) (Some y) steps overlap h =
    let (path, over) = and_parts (is_sound_path sections x y steps) (is_sound_overlap sections y overlap) h in
    let (first, rest) = and_parts (begins x sections steps) (lead_to sections y x.joint steps) path in
    path_read sections y x.joint steps rest

overlap_between : (sections : List Section) (a b : Option Post) (steps overlap : List Step) → lead_between sections a b steps overlap ≡ true → steps_behind steps (overlap_of overlap) ≡ overlap
overlap_between sections None b steps overlap h = cc
overlap_between sections (Some x) None steps overlap h = cc
overlap_between sections (Some x) (Some y) steps overlap h =
    let (path, over) = and_parts (is_sound_path sections x y steps) (is_sound_overlap sections y overlap) h in
    behind_read sections x y steps overlap path over

rest_count : (steps : List Step) → length (overlap_of steps) ≡ length steps + length steps
rest_count [] = refl
rest_count (step ∷ rest) = omega (arith, rest_count rest)

-- the path of a route has the right number of names
path_count : (n k : ℕ) → n ≡ 1 + (k + k) → is_from_one (most RouteSections) k ≡ true → is_path_count n ≡ true
path_count n k is within =
    let half : n / 2 ≡ k = omega (arith, is) in
    let odd : n % 2 ≡ 1 = omega (arith, is) in
    λ i. (ap (is_from_one (most RouteSections)) half ∙ within) i && (ap (λ m. m == 1) odd) i

path_counted : (steps : List Step) → is_from_one (most RouteSections) (length steps) ≡ true → is_path_count (length (path_of steps)) ≡ true
path_counted [] within = cc
path_counted (step ∷ rest) within = path_count (length (path_of (step ∷ rest))) (length (step ∷ rest)) (omega (arith, rest_count rest)) within

-- the overlap of a route has the right number of names
overlap_counted : (steps : List Step) → nat_le (length steps) (most OverlapSections) ≡ true → is_overlap_count (length (overlap_of steps)) ≡ true
overlap_counted steps within =
    let is = rest_count steps in
    let half : length (overlap_of steps) / 2 ≡ length steps = omega (arith, is) in
    let even : length (overlap_of steps) % 2 ≡ 0 = omega (arith, is) in
    λ i. (ap (λ k. nat_le k (most OverlapSections)) half ∙ within) i && (ap (λ m. m == 0) even) i

module _ (net : Net) (route : Route) (good : GoodRoute net route) where
  record RouteParts : Type 0 where
    name : is_name route.name ≡ true
    from : is_name route.from ≡ true
    to : is_name route.to ≡ true
    path : list_all is_name (path_of route.steps) ≡ true
    overlap : list_all is_name (overlap_of route.overlap) ≡ true
    many : is_from_one (most RouteSections) (length route.steps) ≡ true
    few : nat_le (length route.overlap) (most OverlapSections) ≡ true
    led : lead_between net.sections (post_named route.from net) (post_named route.to net) route.steps route.overlap ≡ true

  route_parts : RouteParts
  route_parts =
      let (named, overlap) = and_parts (is_name route.name && is_name route.from && is_name route.to && list_all is_name (path_of route.steps)) (list_all is_name (overlap_of route.overlap)) good.0 in
      let (ends, path) = and_parts (is_name route.name && is_name route.from && is_name route.to) (list_all is_name (path_of route.steps)) named in
      let (front, to) = and_parts (is_name route.name && is_name route.from) (is_name route.to) ends in
      let (name, from) = and_parts (is_name route.name) (is_name route.from) front in
      let rule = well_led net route good.1 in
      record { name = name; from = from; to = to; path = path; overlap = overlap; many = rule.sized; few = rule.few; led = rule.led }

  steps_are : steps_of (names_in (listed (items_of (map string (path_of route.steps))))) ≡ route.steps
  steps_are = ap steps_of (names_listed (path_of route.steps) route_parts.path)
      ∙ path_between net.sections (post_named route.from net) (post_named route.to net) route.steps route.overlap route_parts.led

  overlap_is : steps_behind (steps_of (names_in (listed (items_of (map string (path_of route.steps)))))) (names_in (listed (items_of (map string (overlap_of route.overlap))))) ≡ route.overlap
  overlap_is = (λ j. steps_behind (steps_are j) (names_listed (overlap_of route.overlap) route_parts.overlap j))
      ∙ overlap_between net.sections (post_named route.from net) (post_named route.to net) route.steps route.overlap route_parts.led

  pub route_read : route_of Two (route_data route) ≡ route
  route_read = λ i. record {
    name = unwrap_or (name_is route.name route_parts.name i) [];
    from = unwrap_or (name_is route.from route_parts.from i) [];
    to = unwrap_or (name_is route.to route_parts.to i) [];
    steps = steps_are i;
    overlap = overlap_is i;
  }

  pub route_form : first_failing (form_tests (keys_of part.Route Two) (route_data route)) ≡ None
  route_form =
      (λ i. cond (not (strings (path_of route.steps) i)) (Some (Refused WrongKind 4)) (cond (not (strings (overlap_of route.overlap) i)) (Some (Refused WrongKind 5)) None))

  pub route_values : first_failing (value_tests 1 (keys_of part.Route Two) (route_data route)) ≡ None
  route_values =
      let d = route_data route in
      let path = path_of route.steps in
      let overlap = overlap_of route.overlap in
      let counted : not (is_path_count (length (elements_at (key_of word.Path) d))) ≡ false =
      ap (λ n. not (is_path_count n)) (names_count path) ∙ ap not (path_counted route.steps route_parts.many) in
      let over_counted : not (is_overlap_count (length (elements_at (key_of word.Overlap) d))) ≡ false =
      ap (λ n. not (is_overlap_count n)) (names_count overlap) ∙ ap not (overlap_counted route.overlap route_parts.few) in
      none_failing (value_tests 1 (keys_of part.Route Two) d) (
        found (name_at (key_of word.Name) d) route.name (name_is route.name route_parts.name),
        (
          found (name_at (key_of word.From) d) route.from (name_is route.from route_parts.from),
          (
            found (name_at (key_of word.To) d) route.to (name_is route.to route_parts.to),
            (counted, (ap not (names_are path route_parts.path), (over_counted, (ap not (names_are overlap route_parts.overlap), tt)))),
          ),
        ),
      )

-- in order
module _ (net : Net) (sound : IsSoundNetwork net) where
  -- a scene with the sections, the posts and these turns
  abbrev pub with_turns : List Turn → SceneItems
  with_turns turns = record { network = record net { turns = turns; routes = [] }; kinds = []; trains = [] }

  -- a scene with the sections, the posts, the turns and these routes
  abbrev pub with_routes : List Route → SceneItems
  with_routes routes = record { network = record net { routes = routes }; kinds = []; trains = [] }

  pub turn_passes : (before : List Turn) (turn : Turn) (after : List Turn) → net.turns ≡ before ++ turn ∷ after → GoodTurn net turn
      → first_failing (item_tests part.Turn Two (with_turns before) (turn_data turn)) ≡ None
  turn_passes before turn after is good =
      let so_far = (with_turns before).network in
      let accepted : first_failing (turn_tests so_far turn) ≡ None = turn_after net before turn after sound is in
      let room = all_passed (turn_tests so_far turn) accepted in
      item_none part.Turn Two (with_turns before) (turn_data turn) room.0 (turn_values net turn good)
      (ap (λ t. first_failing (turn_tests so_far t)) (turn_read net turn good) ∙ accepted)

  pub turn_next : (before : List Turn) (turn : Turn) → GoodTurn net turn → with_items part.Turn Two (turn_data turn ∷ []) (with_turns before) ≡ with_turns (before ++ turn ∷ [])
  turn_next before turn good = ap (λ t. with_turns (before ++ t ∷ [])) (turn_read net turn good)

  pub route_passes : (before : List Route) (route : Route) (after : List Route) → net.routes ≡ before ++ route ∷ after → GoodRoute net route
      → first_failing (item_tests part.Route Two (with_routes before) (route_data route)) ≡ None
  route_passes before route after is good =
      let so_far = (with_routes before).network in
      let accepted = route_after net before route after sound is in
      let room = all_passed (route_tests so_far route) accepted in
      item_none part.Route Two (with_routes before) (route_data route) room.0 (route_values net route good)
      (ap (λ r. first_failing (route_tests so_far r)) (route_read net route good) ∙ accepted)

  pub route_next : (before : List Route) (route : Route) → GoodRoute net route → with_items part.Route Two (route_data route ∷ []) (with_routes before) ≡ with_routes (before ++ route ∷ [])
  route_next before route good = ap (λ r. with_routes (before ++ r ∷ [])) (route_read net route good)

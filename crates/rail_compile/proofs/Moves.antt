-- The moves over the routes of an itinerary are fine.
use Rattle.std.proofs.Common.{◌≡◌, ℕ, suc, ◌+◌, ◌-◌, ◌<◌, Bool, true, false, not, ◌&&◌, ◌||◌, ◌==◌, eqb, ltb, leb, List, [], ◌∷◌, ◌++◌, length, get_or, map, is_some, unwrap_or, option_and_then, Option, Some, None, refl, sym, ap, ◌∙◌, arith}
use Rattle.std.specs.List.{find, list_any, list_all, position}
use Rattle.std.specs.Cmp.Lexicographic.{bytes_decides}
use Rattle.std.proofs.lemmas.Bool.{and_parts, and_from, or_parts, or_from, eqb-true, lt-ltb, le-leb, false≢true, not-true, not_from_false, false_from_ne_true}
use Rattle.std.proofs.lemmas.List.{length-map, map-append}
use Rattle.std.proofs.lemmas.List.Folds.{list_all-append}
use Rattle.std.proofs.lemmas.List.Quantifiers.{position-Some}
use Rattle.rail_base.specs.NameForms.{same_name}
use Rattle.rail_base.specs.declared.limits.TheConstants.{OVERLAP_SECTIONS, ROUTE_SECTIONS, SETTING, WATCHING, APPROACH, TURN_TIME}
use Rattle.rail_base.specs.declared.plant.MoveRow.{MoveRow}
use Rattle.rail_base.specs.declared.plant.TurnRow.{TurnRow}
use Rattle.rail_rules.specs.Numbers.{is_in}
use Rattle.rail_base.specs.Limits.{is_from_one}
use Rattle.rail_rules.specs.Accepted.{are_distinct_numbers, is_turn_in_range, is_move_in_range}
use Rattle.rail_rules.specs.Plant.{no_move}
use Rattle.rail_track.specs.declared.section.Section.{Section}
use Rattle.rail_track.specs.Joints.{is_named}
use Rattle.rail_base.specs.Lists.{are_distinct}
use Rattle.rail_routes.specs.declared.items.Post.{Post}
use Rattle.rail_routes.specs.declared.items.PostRole.{PostRole}
use Rattle.rail_routes.specs.declared.items.PostRole.TheVariants.{Portal, Signal, Board}
use Rattle.rail_routes.specs.declared.items.Turn.{Turn}
use Rattle.rail_routes.specs.declared.items.Step.{Step}
use Rattle.rail_routes.specs.declared.items.Route.{Route}
use Rattle.rail_routes.specs.Net.{Net, posts, is_post, is_turn, post_named, no_post, no_section}
use Rattle.rail_routes.specs.PostRules.{is_formed, has_times, stands_well}
use Rattle.rail_routes.specs.TurnRules.{turns_well}
use Rattle.rail_routes.specs.SoundNetworks.{same_role, have_one_section, is_timed, is_sound_post, is_sound_turn, is_sound_route, IsSoundNetwork}
use Rattle.rail_compile.specs.Refusals.{ends_at_portal}
use Rattle.rail_compile.specs.Ways.{is_known_step}
use Rattle.rail_compile.specs.Itineraries.{may_leave, turn_to, turn_row, turn_between, turn_before, number_of, move_over, moves_over}
use Rattle.rail_compile.proofs.Finds.{found_passes, position_some, some_unwrapped}
use Rattle.rail_compile.proofs.Routes.{ends_plain, led_from, sound_route}

-- the number of a known section
pub record IsNumber (sections : List Section) (name : List ℕ) (n : ℕ) : Type 0 where
  pub within : n < length sections
  pub named : (d : Section) → same_name name (get_or sections n d).name ≡ true

pub number_is : (net : Net) (name : List ℕ) → list_any (is_named name) net.sections ≡ true → IsNumber net.sections name (number_of net name)
number_is net name known =
    let at : position (is_named name) net.sections ≡ Some (number_of net name) = some_unwrapped (position (is_named name) net.sections) 0 (position_some (is_named name) net.sections known) in
    record {
      within = (position-Some (is_named name) net.sections (number_of net name) no_section at).0;
      named = λ d. (position-Some (is_named name) net.sections (number_of net name) d at).1;
    }

-- the number of the section of a step
abbrev pub step_number : Net → Step → ℕ
step_number net step = number_of net step.section

-- numbers of known sections are in range
numbers_known : (net : Net) (steps : List Step) → list_all (is_known_step net.sections) steps ≡ true → list_all (λ x. ltb x (length net.sections)) (map (step_number net) steps) ≡ true
numbers_known net [] known = refl
numbers_known net (step ∷ rest) known =
    let parts = and_parts (is_known_step net.sections step) (list_all (is_known_step net.sections) rest) known in
    and_from (ltb (step_number net step) (length net.sections)) (list_all (λ x. ltb x (length net.sections)) (map (step_number net) rest))
    (lt-ltb (step_number net step) (length net.sections) (number_is net step.section parts.0).within)
    (numbers_known net rest parts.1)

-- sections of other names have other numbers
other_number : (net : Net) (name : List ℕ) (steps : List Step) → list_any (is_named name) net.sections ≡ true →
    list_all (is_known_step net.sections) steps ≡ true → list_any (λ (other : Step). same_name name other.section) steps ≡ false →
    is_in (number_of net name) (map (step_number net) steps) ≡ false
other_number net name [] known all none = refl
other_number net name (step ∷ rest) known all none =
    let parts = and_parts (is_known_step net.sections step) (list_all (is_known_step net.sections) rest) all in
    let others = or_parts (same_name name step.section) (list_any (λ (other : Step). same_name name other.section) rest) none in
    let mine = number_is net name known in
    let here = number_is net step.section parts.0 in
    let apart : eqb (step_number net step) (number_of net name) ≡ false =
    false_from_ne_true (eqb (step_number net step) (number_of net name)) (λ same.
    let equal : step_number net step ≡ number_of net name = eqb-true (step_number net step) (number_of net name) same in
    let first : name ≡ (get_or net.sections (number_of net name) no_section).name = (bytes_decides name (get_or net.sections (number_of net name) no_section).name).0 (mine.named no_section) in
    let second : step.section ≡ (get_or net.sections (step_number net step) no_section).name = (bytes_decides step.section (get_or net.sections (step_number net step) no_section).name).0 (here.named no_section) in
    let one : name ≡ step.section = first ∙ ap (λ k. (get_or net.sections k no_section).name) (sym equal) ∙ sym second in
    false≢true (sym others.0 ∙ (bytes_decides name step.section).1 one)) in
    or_from (eqb (step_number net step) (number_of net name)) (is_in (number_of net name) (map (step_number net) rest)) apart (other_number net name rest known parts.1 others.1)

numbers_distinct : (net : Net) (steps : List Step) → list_all (is_known_step net.sections) steps ≡ true → are_distinct have_one_section steps ≡ true → are_distinct_numbers (map (step_number net) steps) ≡ true
numbers_distinct net [] known apart = refl
numbers_distinct net (step ∷ rest) known apart =
    let parts = and_parts (is_known_step net.sections step) (list_all (is_known_step net.sections) rest) known in
    let fronts = and_parts (not (list_any (have_one_section step) rest)) (are_distinct have_one_section rest) apart in
    and_from (not (is_in (step_number net step) (map (step_number net) rest))) (are_distinct_numbers (map (step_number net) rest))
    (not_from_false (is_in (step_number net step) (map (step_number net) rest)) (other_number net step.section rest parts.0 parts.1 (not-true (list_any (have_one_section step) rest) fronts.0)))
    (numbers_distinct net rest parts.1 fronts.1)

pub list_all_weaker : {X : Type 0} (p q : X → Bool) → ((x : X) → p x ≡ true → q x ≡ true) → (xs : List X) → list_all p xs ≡ true → list_all q xs ≡ true
list_all_weaker p q weaker [] all = refl
list_all_weaker p q weaker (x ∷ xs) all =
    let parts = and_parts (p x) (list_all p xs) all in
    and_from (q x) (list_all q xs) (weaker x parts.0) (list_all_weaker p q weaker xs parts.1)

-- each post has its times in range
timed_post : (role : PostRole) (sections : List Section) (post : Post) → is_sound_post role sections post ≡ true → is_timed post ≡ true
timed_post role sections post h =
    let front : Bool = same_role role post.role && is_formed post in
    (and_parts front (is_timed post) (and_parts (front && is_timed post) (stands_well sections post) h).0).1

posts_timed : (net : Net) → IsSoundNetwork net → list_all is_timed (posts net) ≡ true
posts_timed net h =
    let portals = list_all_weaker (is_sound_post Portal net.sections) is_timed (timed_post Portal net.sections) net.portals h.portals in
    let signals = list_all_weaker (is_sound_post Signal net.sections) is_timed (timed_post Signal net.sections) net.signals h.signals in
    let boards = list_all_weaker (is_sound_post Board net.sections) is_timed (timed_post Board net.sections) net.boards h.boards in
    list_all-append is_timed (net.portals ++ net.signals) net.boards
    ∙ and_from (list_all is_timed (net.portals ++ net.signals)) (list_all is_timed net.boards) (list_all-append is_timed net.portals net.signals ∙ and_from (list_all is_timed net.portals) (list_all is_timed net.signals) portals signals) boards

-- a post that has times has them in range
pub record HasTimes (post : Post) : Type 0 where
  pub setting : is_from_one SETTING post.setting ≡ true
  pub watching : leb post.watching WATCHING ≡ true
  pub approach : leb post.approach APPROACH ≡ true

has_times_in_range : (post : Post) → has_times post.role ≡ true → is_timed post ≡ true → HasTimes post
has_times_in_range post has timed =
    let within : Bool = is_from_one SETTING post.setting && leb post.watching WATCHING && leb post.approach APPROACH in
    let all : within ≡ true = ap (λ b. not b || within) (sym has) ∙ timed in
    let two = and_parts (is_from_one SETTING post.setting && leb post.watching WATCHING) (leb post.approach APPROACH) all in
    let one = and_parts (is_from_one SETTING post.setting) (leb post.watching WATCHING) two.0 in
    record { setting = one.0; watching = one.1; approach = two.1 }

-- a turn at a step of the route is fine
with_step : (turn : Turn) (steps : List Step) (o : Option ℕ) → leb turn.time TURN_TIME ≡ true → ((j : ℕ) → o ≡ Some j → j < length steps) → is_turn_in_range (length steps) (turn_row (Some turn) o) ≡ true
with_step turn steps None short within = refl
with_step turn steps (Some j) short within =
    let lt : j < length steps = within j refl in
    and_from (is_from_one (length steps) (j + 1)) (leb turn.time TURN_TIME)
    (and_from (leb 1 (j + 1)) (leb (j + 1) (length steps)) (le-leb 1 (j + 1) (omega arith)) (le-leb (j + 1) (length steps) (omega arith)))
    short

no_step : Step
no_step = record { section = []; from = []; to = [] }

turned : (steps : List Step) (turn : Option Turn) (begin : Option Post) → ((t : Turn) → turn ≡ Some t → leb t.time TURN_TIME ≡ true) → is_turn_in_range (length steps) (turn_row turn (option_and_then (λ leaving. position (may_leave leaving) steps) begin)) ≡ true
turned steps None begin short = refl
turned steps (Some turn) None short = refl
turned steps (Some turn) (Some leaving) short =
    with_step turn steps (position (may_leave leaving) steps) (short turn refl) (λ j at. (position-Some (may_leave leaving) steps j no_step at).0)

turn_short : (net : Net) → IsSoundNetwork net → (arriving leaving : List ℕ) (turn : Turn) → find (is_turn arriving leaving) net.turns ≡ Some turn → leb turn.time TURN_TIME ≡ true
turn_short net h arriving leaving turn found =
    let short : Bool = leb turn.time TURN_TIME in
    let known : Bool = list_any (is_post turn.arriving) (posts net) in
    let sound = found_passes (is_turn arriving leaving) (is_sound_turn net) net.turns turn found h.turns in
    (and_parts short known (and_parts (short && known) (turns_well net turn) sound).0).0

turn_fine : (net : Net) → IsSoundNetwork net → (route : Route) (rest : List Route) → is_turn_in_range (length route.steps) (turn_before net route rest) ≡ true
turn_fine net h route [] = refl
turn_fine net h route (next ∷ rest) = turned route.steps (turn_to net route next) (post_named next.from net) (turn_short net h route.to next.from)

-- a move over a sound route is fine
pub move_fine : (net : Net) → IsSoundNetwork net → (route : Route) (turn : Option TurnRow) → is_sound_route net route ≡ true → is_turn_in_range (length route.steps) turn ≡ true → is_move_in_range (length net.sections) (move_over net route turn) ≡ true
move_fine net h route turn sound fine =
    let facts = sound_route net route sound in
    let way = led_from net route sound in
    let post : Post = unwrap_or (post_named route.from net) no_post in
    let numbers : List ℕ = map (step_number net) route.steps in
    let over : List ℕ = map (step_number net) route.overlap in
    let claims : List ℕ = numbers ++ over in
    let all : List Step = route.steps ++ route.overlap in
    let together : map (step_number net) all ≡ claims = map-append (step_number net) route.steps route.overlap in
    let known : list_all (is_known_step net.sections) all ≡ true =
    list_all-append (is_known_step net.sections) route.steps route.overlap
    ∙ and_from (list_all (is_known_step net.sections) route.steps) (list_all (is_known_step net.sections) route.overlap) way.known way.over_known in
    let count : length numbers ≡ length route.steps = length-map route.steps (step_number net) in
    let over_count : length over ≡ length route.overlap = length-map route.overlap (step_number net) in
    let found : post_named route.from net ≡ Some post = some_unwrapped (post_named route.from net) no_post way.there in
    let times = has_times_in_range post way.no_board (found_passes (is_post route.from) is_timed (posts net) post found (posts_timed net h)) in
    let c1 : Bool = is_from_one ROUTE_SECTIONS (length numbers) in
    let c0 : Bool = leb (length over) OVERLAP_SECTIONS in
    let c2 : Bool = list_all (λ x. ltb x (length net.sections)) claims in
    let c3 : Bool = are_distinct_numbers claims in
    let c4 : Bool = is_from_one SETTING post.setting in
    let c5 : Bool = leb post.watching WATCHING in
    let c6 : Bool = leb post.approach APPROACH in
    let c7 : Bool = is_turn_in_range (length numbers) turn in
    let p1 : c1 ≡ true = and_from (ltb 0 (length numbers)) (leb (length numbers) ROUTE_SECTIONS) (lt-ltb 0 (length numbers) (omega (arith, count, facts.some_step))) (le-leb (length numbers) ROUTE_SECTIONS (omega (arith, count, facts.few_steps))) in
    let p0 = and_from c1 c0 p1 (le-leb (length over) OVERLAP_SECTIONS (omega (arith, over_count, facts.few_over))) in
    let p2 = and_from (c1 && c0) c2 p0 (ap (list_all (λ x. ltb x (length net.sections))) (sym together) ∙ numbers_known net all known) in
    let p3 = and_from (c1 && c0 && c2) c3 p2 (ap are_distinct_numbers (sym together) ∙ numbers_distinct net all known facts.apart) in
    let p4 = and_from (c1 && c0 && c2 && c3) c4 p3 times.setting in
    let p5 = and_from (c1 && c0 && c2 && c3 && c4) c5 p4 times.watching in
    let p6 = and_from (c1 && c0 && c2 && c3 && c4 && c5) c6 p5 times.approach in
    and_from (c1 && c0 && c2 && c3 && c4 && c5 && c6) c7 p6 (ap (λ k. is_turn_in_range k turn) count ∙ fine)

pub moves_fine : (net : Net) → IsSoundNetwork net → (routes : List Route) → list_all (is_sound_route net) routes ≡ true → list_all (is_move_in_range (length net.sections)) (moves_over net routes) ≡ true
moves_fine net h [] sound = refl
moves_fine net h (route ∷ rest) sound =
    let parts = and_parts (is_sound_route net route) (list_all (is_sound_route net) rest) sound in
    and_from (is_move_in_range (length net.sections) (move_over net route (turn_before net route rest))) (list_all (is_move_in_range (length net.sections)) (moves_over net rest))
    (move_fine net h route (turn_before net route rest) parts.0 (turn_fine net h route rest))
    (moves_fine net h rest parts.1)

pub length-moves_over : (net : Net) (routes : List Route) → length (moves_over net routes) ≡ length routes
length-moves_over net [] = refl
length-moves_over net (route ∷ rest) = ap suc (length-moves_over net rest)

-- no turn is after the last move
pub last_turn : (net : Net) (routes : List Route) → not (is_some (get_or (moves_over net routes) (length (moves_over net routes) - 1) no_move).turn) ≡ true
last_turn net [] = refl
last_turn net (route ∷ []) = refl
last_turn net (route ∷ next ∷ rest) =
    let later : List MoveRow = moves_over net (next ∷ rest) in
    let first : MoveRow = move_over net route (turn_between net route next) in
    let index : suc (length later - 1) ≡ length (first ∷ later) - 1 = omega arith in
    ap (λ k. not (is_some (get_or (first ∷ later) k no_move).turn)) (sym index) ∙ last_turn net (next ∷ rest)

-- no overlap is after the last move, which leads to a portal
pub last_over : (net : Net) (routes : List Route) → list_all (is_sound_route net) routes ≡ true → ends_at_portal net routes ≡ true
    → (length (get_or (moves_over net routes) (length (moves_over net routes) - 1) no_move).overlap == 0) ≡ true
last_over net [] sound ends = refl
last_over net (route ∷ []) sound ends =
    let plain : route.overlap ≡ [] = ends_plain net route (and_parts (is_sound_route net route) true sound).0 ends in
    ap (λ (steps : List Step). length (map (step_number net) steps) == 0) plain
last_over net (route ∷ next ∷ rest) sound ends =
    let later : List MoveRow = moves_over net (next ∷ rest) in
    let first : MoveRow = move_over net route (turn_between net route next) in
    let index : suc (length later - 1) ≡ length (first ∷ later) - 1 = omega arith in
    ap (λ k. length (get_or (first ∷ later) k no_move).overlap == 0) (sym index)
    ∙ last_over net (next ∷ rest) (and_parts (is_sound_route net route) (list_all (is_sound_route net) (next ∷ rest)) sound).1 ends

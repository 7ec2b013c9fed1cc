-- A sound network stays sound with a turn or route more or less.
use Rattle.std.proofs.Common.{◌≡◌, ℕ, ◌+◌, ◌-◌, Bool, true, false, not, ◌&&◌, List, [], ◌∷◌, ◌++◌, Option, Some, None, is_some, length, take, nat_le, refl, sym, ap, ◌∙◌, arith, append_assoc}
use Rattle.std.specs.List.{list_any, list_all}
use Rattle.std.proofs.lemmas.List.{length_push}
use Rattle.rail_base.specs.declared.limits.TheConstants.{TURN_TIME, ROUTE_SECTIONS, OVERLAP_SECTIONS}
use Rattle.rail_base.specs.declared.refusals.Reason.TheVariants.{RouteRepeat}
use Rattle.rail_track.specs.declared.section.Section.{Section}
use Rattle.rail_base.specs.Limits.{is_from_one}
use Rattle.rail_base.specs.Lists.{are_distinct}
use Rattle.rail_track.specs.Lists.{without}
use Rattle.rail_base.specs.FirstRefusals.{Test, tests_over}
use Rattle.rail_track.specs.NetFaults.{refused_where}
use Rattle.rail_track.specs.SoundTracks.{IsSoundTrack}
use Rattle.rail_base.proofs.CallerLemmas.{AllPassed, all_passed}
use Rattle.rail_track.proofs.CallerLemmas.{same_name-comm, list_all-without, are_distinct-push}
use Rattle.rail_routes.specs.declared.items.Post.{Post}
use Rattle.rail_routes.specs.declared.items.PostRole.TheVariants.{Portal, Signal, Board}
use Rattle.rail_routes.specs.declared.items.Step.{Step}
use Rattle.rail_routes.specs.declared.items.Turn.{Turn}
use Rattle.rail_routes.specs.declared.items.Route.{Route}
use Rattle.rail_routes.specs.Net.{Net, posts, is_post, post_named}
use Rattle.rail_routes.specs.TurnRules.{turn_tests, turn_refusal, turns_well}
use Rattle.rail_routes.specs.RouteRules.{occurred, repeats_behind, repeat_tests, begins, step_tests, leads_on, leads_from, lead_tests, path_from, overlap_from, way_tests, route_tests, route_refusal}
use Rattle.rail_routes.specs.SoundNetworks.{IsSoundNetwork, is_sound_post, is_sound_turn, is_sound_route, have_one_section, lead_to, lead_on, is_sound_path, is_sound_overlap, lead_between}
use Rattle.rail_routes.proofs.Uses.{list_any-find}
use Rattle.rail_routes.proofs.Lists.{both_true, not_false, all_more, all_push}
use Rattle.rail_routes.proofs.Tables.{is_short}
use Rattle.rail_routes.proofs.Distinctness.{distinct_turn, distinct_without_turn, distinct_route, distinct_without_route, distinct_empty}

pub sound_with_turn : (net : Net) (turn : Turn) → IsSoundNetwork net → turn_refusal net turn ≡ None → IsSoundNetwork (record net { turns = net.turns ++ turn ∷ [] })
sound_with_turn net turn is none =
    let a = all_passed (turn_tests net turn) none in
    let timed : nat_le turn.time TURN_TIME ≡ true = not_false (nat_le turn.time TURN_TIME) a.1.0 in
    let there : list_any (is_post turn.arriving) (posts net) ≡ true = not_false (list_any (is_post turn.arriving) (posts net)) a.1.1.1.0 in
    let well : turns_well net turn ≡ true = not_false (turns_well net turn) a.1.1.1.1.1.0 in
    record {
      distinct = distinct_turn net turn is.distinct none;
      portals = is.portals;
      signals = is.signals;
      boards = is.boards;
      turns = all_push (is_sound_turn net) net.turns turn is.turns (λ i. timed i && there i && well i);
      routes = is.routes;
    }

pub sound_without_turn : (net : Net) (p : Turn → Bool) → IsSoundNetwork net → IsSoundNetwork (record net { turns = without p net.turns })
sound_without_turn net p is = record {
  distinct = distinct_without_turn net p is.distinct;
  portals = is.portals;
  signals = is.signals;
  boards = is.boards;
  turns = list_all-without p (is_sound_turn net) net.turns is.turns;
  routes = is.routes;
}

pub sound_without_route : (net : Net) (p : Route → Bool) → IsSoundNetwork net → IsSoundNetwork (record net { routes = without p net.routes })
sound_without_route net p is = record {
  distinct = distinct_without_route net p is.distinct;
  portals = is.portals;
  signals = is.signals;
  boards = is.boards;
  turns = is.turns;
  routes = list_all-without p (is_sound_route net) net.routes is.routes;
}

-- what the tests of an accepted route say of its steps
passed_parts : {R : Type 0} (ts us : List (Test R)) → AllPassed (ts ++ us) → AllPassed ts × AllPassed us
passed_parts [] us h = (tt, h)
passed_parts (t ∷ ts) us h = let rest = passed_parts ts us h.1 in ((h.0, rest.0), rest.1)

before_next : (n : ℕ) → n + 1 - 1 ≡ n
before_next n = omega arith

apart_from : (steps before rest : List Step) (n : ℕ) → before ++ rest ≡ steps → n ≡ length before + 1 → are_distinct have_one_section before ≡ true
    → AllPassed (tests_over (λ k step. refused_where RouteRepeat k (occurred steps k step)) n rest) → are_distinct have_one_section steps ≡ true
apart_from steps before [] n split is apart passed = ap (are_distinct have_one_section) (sym split ∙ append_nil before) ∙ apart
  where
    append_nil : (xs : List Step) → xs ++ [] ≡ xs
    append_nil [] = refl
    append_nil (x ∷ xs) = ap (λ ys. x ∷ ys) (append_nil xs)
apart_from steps before (step ∷ rest) n split is apart passed =
    let earlier : take (n - 1) steps ≡ before = (λ i. take ((ap (λ k. k - 1) is ∙ before_next (length before)) i) (sym split i)) ∙ front before (step ∷ rest) in
    let other : list_any (have_one_section step) before ≡ false = sym (ap (list_any (have_one_section step)) earlier) ∙ passed.0 in
    apart_from steps (before ++ step ∷ []) rest (n + 1) (append_assoc before (step ∷ []) rest ∙ split) (omega (arith, length_push before step, is))
    (are_distinct-push have_one_section (λ x y. same_name-comm x.section y.section) before step apart other) passed.1
  where
    front : (xs ys : List Step) → take (length xs) (xs ++ ys) ≡ xs
    front [] ys = refl
    front (x ∷ xs) ys = ap (λ zs. x ∷ zs) (front xs ys)

steps_lead : (sections : List Section) (end : Post) (n : ℕ) (joint : List ℕ) (steps : List Step) → AllPassed (step_tests sections end n joint steps) → lead_to sections end joint steps ≡ true
steps_lead sections end n joint [] passed = refl
steps_lead sections end n joint (step ∷ rest) passed =
    λ i. not_false (leads_on sections end joint step rest) passed.0 i && steps_lead sections end (n + 1) step.to rest passed.1 i

goes_on_from : (sections : List Section) (n : ℕ) (joint : List ℕ) (steps : List Step) → AllPassed (lead_tests sections n joint steps) → lead_on sections joint steps ≡ true
goes_on_from sections n joint [] passed = refl
goes_on_from sections n joint (step ∷ rest) passed =
    λ i. not_false (leads_from sections joint step) passed.0 i && goes_on_from sections (n + 1) step.to rest passed.1 i

way_leads : (sections : List Section) (begin end : Option Post) (steps overlap : List Step) → is_some begin ≡ true → is_some end ≡ true → AllPassed (way_tests begin end sections steps overlap) → lead_between sections begin end steps overlap ≡ true
way_leads sections (Some begin) (Some end) steps overlap first last passed =
    let parts = passed_parts (path_from begin end sections steps) (overlap_from end sections (length steps + 1) overlap) passed in
    let path : is_sound_path sections begin end steps ≡ true = λ i. not_false (begins begin sections steps) parts.0.0 i && steps_lead sections end 1 begin.joint steps parts.0.1 i in
    let over : is_sound_overlap sections end overlap ≡ true = λ i. not (parts.1.0 i) && goes_on_from sections (length steps + 1) end.joint overlap parts.1.1 i in
    λ i. path i && over i
way_leads sections (Some begin) None steps overlap first last passed = cc
way_leads sections None end steps overlap first last passed = cc

new_route : (net : Net) (route : Route) → route_refusal net route ≡ None → is_sound_route net route ≡ true
new_route net route none =
    let a = all_passed (route_tests net route) none in
    let within : is_from_one ROUTE_SECTIONS (length route.steps) ≡ true = not_false (is_from_one ROUTE_SECTIONS (length route.steps)) a.1.0 in
    let few : nat_le (length route.overlap) OVERLAP_SECTIONS ≡ true = not_false (nat_le (length route.overlap) OVERLAP_SECTIONS) a.1.1.0 in
    let rules = a.1.1.1.1 in
    let from = sym (list_any-find (is_post route.from) (posts net)) ∙ not_false (list_any (is_post route.from) (posts net)) rules.0 in
    let to = sym (list_any-find (is_post route.to) (posts net)) ∙ not_false (list_any (is_post route.to) (posts net)) rules.1.0 in
    let parts = passed_parts (repeat_tests route.steps route.overlap) (way_tests (post_named route.from net) (post_named route.to net) net.sections route.steps route.overlap) rules.1.1.1.1 in
    let fresh = passed_parts (repeats_behind [] route.steps) (repeats_behind route.steps route.overlap) parts.0 in
    let path_apart = apart_from route.steps [] route.steps 1 refl refl refl fresh.0 in
    let apart = apart_from (route.steps ++ route.overlap) route.steps route.overlap (length route.steps + 1) refl refl path_apart fresh.1 in
    let leads = way_leads net.sections (post_named route.from net) (post_named route.to net) route.steps route.overlap from to parts.1 in
    λ i. within i && few i && apart i && leads i

pub sound_with_route : (net : Net) (route : Route) → IsSoundNetwork net → route_refusal net route ≡ None → IsSoundNetwork (record net { routes = net.routes ++ route ∷ [] })
sound_with_route net route is none = record {
  distinct = distinct_route net route is.distinct none;
  portals = is.portals;
  signals = is.signals;
  boards = is.boards;
  turns = is.turns;
  routes = all_push (is_sound_route net) net.routes route is.routes (new_route net route none);
}

pub sound_empty : (net : Net) → IsSoundTrack net.sections → net.portals ≡ [] → net.signals ≡ [] → net.boards ≡ [] → net.turns ≡ [] → net.routes ≡ [] → IsSoundNetwork net
sound_empty net sound p s b t r = record {
  distinct = distinct_empty net sound p s b t r;
  portals = ap (list_all (is_sound_post Portal net.sections)) p;
  signals = ap (list_all (is_sound_post Signal net.sections)) s;
  boards = ap (list_all (is_sound_post Board net.sections)) b;
  turns = ap (list_all (is_sound_turn net)) t;
  routes = ap (list_all (is_sound_route net)) r;
}

-- what the rule of a sound route says of it
pub record IsWellLed (net : Net) (route : Route) : Type 0 where
  pub sized : is_from_one ROUTE_SECTIONS (length route.steps) ≡ true
  pub few : nat_le (length route.overlap) OVERLAP_SECTIONS ≡ true
  pub apart : are_distinct have_one_section (route.steps ++ route.overlap) ≡ true
  pub led : lead_between net.sections (post_named route.from net) (post_named route.to net) route.steps route.overlap ≡ true

pub well_led : (net : Net) (route : Route) → is_sound_route net route ≡ true → IsWellLed net route
well_led net route is =
    let sized : Bool = is_from_one ROUTE_SECTIONS (length route.steps) in
    let few : Bool = nat_le (length route.overlap) OVERLAP_SECTIONS in
    let apart : Bool = are_distinct have_one_section (route.steps ++ route.overlap) in
    let led : Bool = lead_between net.sections (post_named route.from net) (post_named route.to net) route.steps route.overlap in
    let three = both_true (sized && few && apart) led is in
    let two = both_true (sized && few) apart three.0 in
    let one = both_true sized few two.0 in
    record { sized = one.0; few = one.1; apart = two.1; led = three.1 }

-- the routes of a sound network are short
pub sound_short : (net : Net) → IsSoundNetwork net → list_all is_short net.routes ≡ true
sound_short net is =
    all_more is_short (is_sound_route net)
    (λ route h.
    let led = well_led net route h in
    let path = both_true (nat_le 1 (length route.steps)) (nat_le (length route.steps) ROUTE_SECTIONS) led.sized in
    λ i. path.1 i && led.few i) net.routes is.routes

-- The tables beside the lists of a network.
use Rattle.std.proofs.Common.{◌≡◌, ℕ, ◌+◌, ◌*◌, ◌≤◌, ◌<◌, Bool, true, false, cond, not, ◌&&◌, None, List, [], ◌∷◌, length, count_by, nat_le, refl, arith, length-append}
use Rattle.std.specs.List.{list_all}
use Rattle.std.proofs.lemmas.List.{length-map}
use Rattle.std.proofs.lemmas.List.Sums.{count_by-le-length, sum_by-append}
use Rattle.std.proofs.lemmas.Bool.Decides.{nat_tests}
use Rattle.rail_base.specs.NameForms.{same_name}
use Rattle.rail_base.specs.declared.limits.TheConstants.{ROUTES, ROUTE_SECTIONS, OVERLAP_SECTIONS}
use Rattle.rail_routes.specs.declared.items.Step.{Step}
use Rattle.rail_routes.specs.declared.items.Turn.{Turn}
use Rattle.rail_routes.specs.declared.items.Route.{Route}
use Rattle.rail_base.specs.Limits.{is_from_one}
use Rattle.rail_base.proofs.CallerLemmas.{all_passed}
use Rattle.rail_routes.specs.Net.{Net}
use Rattle.rail_routes.specs.RouteRules.{route_tests, route_refusal}
use Rattle.rail_routes.specs.Uses.{sections_in, sections_of}
use Rattle.rail_routes.specs.NetworkFields.{claims_of, turn_uses, route_uses}
use Rattle.rail_routes.proofs.Uses.{sum_by-le-few, all_pass}

pub turn_uses-le : (name : List ℕ) (turns : List Turn) → turn_uses turns name ≤ 2 * length turns
turn_uses-le name turns =
    sum_by-le-few (λ (turn : Turn). count_by (same_name name) (turn.arriving ∷ turn.leaving ∷ [])) (λ _. true) 2 (λ turn _. count_by-le-length (same_name name) (turn.arriving ∷ turn.leaving ∷ [])) turns (all_pass turns)

pub route_uses-le : (name : List ℕ) (routes : List Route) → route_uses routes name ≤ 2 * length routes
route_uses-le name routes =
    sum_by-le-few (λ (route : Route). count_by (same_name name) (route.from ∷ route.to ∷ [])) (λ _. true) 2 (λ route _. count_by-le-length (same_name name) (route.from ∷ route.to ∷ [])) routes (all_pass routes)

abbrev pub is_short : Route → Bool
is_short route = nat_le (length route.steps) ROUTE_SECTIONS && nat_le (length route.overlap) OVERLAP_SECTIONS

both : (b c : Bool) → (b && c) ≡ true → (b ≡ true) × (c ≡ true)
both true c h = (refl, h)
both false c h = cc

-- path and overlap of a short route
pub short_parts : (route : Route) → is_short route ≡ true → (length route.steps ≤ 32) × (length route.overlap ≤ 8)
short_parts route is =
    let parts = both (nat_le (length route.steps) ROUTE_SECTIONS) (nat_le (length route.overlap) OVERLAP_SECTIONS) is in
    let path = parts.0 in
    let over = parts.1 in
    (grind (arith, nat_tests), grind (arith, nat_tests))

-- the sections that a route claims are as many as the steps of path and overlap
pub length-sections_of : (route : Route) → length (sections_of route) ≡ length route.steps + length route.overlap
length-sections_of route =
    omega (
      arith,
      length-append (sections_in route.steps) (sections_in route.overlap),
      length-map route.steps (λ (step : Step). step.section),
      length-map route.overlap (λ (step : Step). step.section),
    )

pub short_length : (route : Route) → is_short route ≡ true → length (sections_of route) ≤ 40
short_length route is = let parts = short_parts route is in omega (arith, length-sections_of route, parts.0, parts.1)

-- a name is counted among the sections of a route as often as among those of path and overlap
pub count_by-sections_of : (name : List ℕ) (route : Route) → count_by (same_name name) (sections_of route) ≡ count_by (same_name name) (sections_in route.steps) + count_by (same_name name) (sections_in route.overlap)
count_by-sections_of name route = sum_by-append (λ (x : List ℕ). cond (same_name name x) 1 0) (sections_in route.steps) (sections_in route.overlap)

pub claims_of-le : (name : List ℕ) (routes : List Route) → list_all is_short routes ≡ true → claims_of routes name ≤ 40 * length routes
claims_of-le name routes short =
    sum_by-le-few (λ route. count_by (same_name name) (sections_of route)) is_short 40
    (λ route is. omega (arith, count_by-le-length (same_name name) (sections_of route), short_length route is)) routes short

not_false : (b : Bool) → not b ≡ false → b ≡ true
not_false true h = refl
not_false false h = cc

-- an accepted route has room, and is short
pub route_fits : (net : Net) (route : Route) → route_refusal net route ≡ None → (length net.routes < 1024) × (is_short route ≡ true)
route_fits net route none =
    let a = all_passed (route_tests net route) none in
    let room : nat_le ROUTES (length net.routes) ≡ false = a.0 in
    let within : is_from_one ROUTE_SECTIONS (length route.steps) ≡ true = not_false (is_from_one ROUTE_SECTIONS (length route.steps)) a.1.0 in
    let path = both (nat_le 1 (length route.steps)) (nat_le (length route.steps) ROUTE_SECTIONS) within in
    let over : nat_le (length route.overlap) OVERLAP_SECTIONS ≡ true = not_false (nat_le (length route.overlap) OVERLAP_SECTIONS) a.1.1.0 in
    (grind (arith, nat_tests), λ i. path.1 i && over i)

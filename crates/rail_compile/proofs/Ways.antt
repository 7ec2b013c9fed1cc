-- Routes by their numbers, and by their names.
use Rattle.std.proofs.Common.{◌≡◌, ℕ, ◌<◌, ◌≤◌, true, false, not, ◌&&◌, cond, List, [], ◌∷◌, length, get_or, map, is_some, Option, Some, IfSome, Vec, Global, refl, sym, ap, ◌∙◌, subst, arith}
use Rattle.std.specs.Prelude.{count_by, nat_lt}
use Rattle.std.specs.List.{find, list_any, list_all, position}
use Rattle.std.proofs.lemmas.Bool.{and_parts, and_from, lt-ltb, not_from_false}
use Rattle.std.proofs.lemmas.List.{length-map, get_or_default}
use Rattle.std.proofs.lemmas.List.Sums.{sum_by-cons}
use Rattle.std.proofs.lemmas.List.Quantifiers.{position-Some}
use Rattle.rail_base.specs.Lists.{are_distinct}
use Rattle.rail_base.specs.NameForms.{same_name}
use Rattle.rail_track.proofs.CallerLemmas.{found_item, list_any-map, list_any-count_by, same_name-self}
use Rattle.rail_routes.specs.declared.items.Route.{Route}
use Rattle.rail_routes.specs.Net.{Net, is_route, no_route}
use Rattle.rail_compile.specs.Itineraries.{route_of, routes_of}
use Rattle.rail_compile.specs.Refusals.{is_known, are_known}
use Rattle.rail_compile.specs.Ways.{is_among, place_among, route_at, routes_at, are_numbers}
use Rattle.rail_compile.proofs.Finds.{position_some, some_unwrapped, unwrapped}

-- where each name counts once at most, no two routes have one name
none_behind : (route : Route) (rest : List Route) → count_by (is_route route.name) (route ∷ rest) ≤ 1 → list_any (is_route route.name) rest ≡ false
none_behind route rest few =
    let self : ℕ = cond (is_route route.name route) 1 0 in
    let one : self ≡ 1 = ap {B = ℕ} (λ b. cond b 1 0) (same_name-self route.name) in
    let none : count_by (is_route route.name) rest ≡ 0 = omega (arith, few, sum_by-cons (λ r. cond (is_route route.name r) 1 0) route rest, one) in
    list_any-count_by (is_route route.name) rest ∙ ap (nat_lt 0) none

pub routes_apart : (routes : List Route) → ((name : List ℕ) → count_by (is_route name) routes ≤ 1) → are_distinct (λ (a : Route) (b : Route). same_name a.name b.name) routes ≡ true
routes_apart [] few = refl
routes_apart (route ∷ rest) few =
    and_from (not (list_any (is_route route.name) rest)) (are_distinct (λ (a : Route) (b : Route). same_name a.name b.name) rest)
    (not_from_false (list_any (is_route route.name) rest) (none_behind route rest (few route.name)))
    (routes_apart rest (λ name. omega (arith, few name, sum_by-cons (λ r. cond (is_route name r) 1 0) route rest)))

-- the numbers are those of the routes of these names, which are known
pub record AreFound (net : Net) (itinerary : List (List ℕ)) (numbers : List ℕ) : Type 0 where
  pub known : are_known net itinerary ≡ true
  pub within : are_numbers net numbers ≡ true
  pub routes : routes_at net numbers ≡ routes_of net itinerary

-- the names are those of the routes
module _ (net : Net) (names : List (List ℕ)) (same : names ≡ map (λ (route : Route). route.name) net.routes) where
  known_by : (name : List ℕ) → is_among names name ≡ is_known net name
  known_by name = ap (list_any (same_name name)) same ∙ list_any-map (same_name name) (λ (route : Route). route.name) net.routes

  pub are_known_by : (itinerary : List (List ℕ)) → list_all (is_among names) itinerary ≡ are_known net itinerary
  are_known_by [] = refl
  are_known_by (name ∷ rest) = λ i. known_by name i && are_known_by rest i

  placed : (name : List ℕ) → is_among names name ≡ true → position (same_name name) names ≡ Some (place_among names name)
  placed name among = some_unwrapped (position (same_name name) names) 0 (position_some (same_name name) names among)

  place_within : (name : List ℕ) → is_among names name ≡ true → place_among names name < length net.routes
  place_within name among = omega (arith, (position-Some (same_name name) names (place_among names name) [] (placed name among)).0, ap length same, length-map net.routes (λ (route : Route). route.name))

  place_is : (name : List ℕ) → is_among names name ≡ true → route_at net (place_among names name) ≡ route_of net name
  place_is name among =
      let place : ℕ = place_among names name in
      let route : Route = route_at net place in
      let read : route ≡ get_or net.routes place route = get_or_default net.routes place no_route route (place_within name among) in
      let found : Some route ≡ find (is_route name) net.routes = found_item (same_name name) (λ (r : Route). r.name) names net.routes same place route (placed name among) read in
      sym (unwrapped (find (is_route name) net.routes) route no_route (sym found))

  pub numbers_are : (itinerary : List (List ℕ)) → list_all (is_among names) itinerary ≡ true → are_numbers net (map (place_among names) itinerary) ≡ true
  numbers_are [] all = refl
  numbers_are (name ∷ rest) all =
      let parts = and_parts (is_among names name) (list_all (is_among names) rest) all in
      and_from (nat_lt (place_among names name) (length net.routes)) (are_numbers net (map (place_among names) rest))
      (lt-ltb (place_among names name) (length net.routes) (place_within name parts.0))
      (numbers_are rest parts.1)

  pub routes_are : (itinerary : List (List ℕ)) → list_all (is_among names) itinerary ≡ true → routes_at net (map (place_among names) itinerary) ≡ routes_of net itinerary
  routes_are [] all = refl
  routes_are (name ∷ rest) all =
      let parts = and_parts (is_among names name) (list_all (is_among names) rest) all in
      λ i. place_is name parts.0 i ∷ routes_are rest parts.1 i

  -- numbers that are found by the names of an itinerary
  pub are_found : (itinerary : List (List ℕ)) (o : Option (Vec ℕ Global)) (numbers : Vec ℕ Global) → o ≡ Some numbers →
      is_some o ≡ list_all (is_among names) itinerary → IfSome o (λ found. found.items ≡ map (place_among names) itinerary) → AreFound net itinerary numbers.items
  are_found itinerary o numbers is known told =
      let all : list_all (is_among names) itinerary ≡ true = sym known ∙ ap is_some is in
      let P : Option (Vec ℕ Global) → Type 0 = λ p. IfSome p (λ (found : Vec ℕ Global). found.items ≡ map (place_among names) itinerary) in
      let each : numbers.items ≡ map (place_among names) itinerary = subst P is told in
      record {
        known = sym (are_known_by itinerary) ∙ all;
        within = ap (are_numbers net) each ∙ numbers_are itinerary all;
        routes = ap (routes_at net) each ∙ routes_are itinerary all;
      }

use Rattle.std.proofs.Common.{◌≡◌, [], ◌∷◌, length, get_or, unwrap_or, count_by, ap, sym, ◌∙◌, refl, arith}
use Rattle.std.specs.Map.{lookup}
use Rattle.std.proofs.lemmas.List.{get_or_push}
use Rattle.std.proofs.lemmas.List.Sums.{count_by-le-length, sum_by_push}
use Rattle.rail_base.specs.NameForms.{same_name}
use Rattle.rail_track.specs.KeyCounts.{times}
use Rattle.rail_routes.specs.declared.items.Route.{Route}
use Rattle.rail_routes.specs.Net.{Net}
use Rattle.rail_routes.specs.RouteRules.{route_refusal}
use Rattle.rail_routes.specs.Uses.{sections_of}
use Rattle.rail_routes.proofs.Tables.{route_uses-le, claims_of-le, route_fits, short_length, short_parts}
use Rattle.rail_routes.specs.NetworkFields.{lists_of}
use Rattle.rail_routes.proofs.WayChanges.{sound_with_route, sound_short}
use Rattle.std.specs.List.{list_any}
use Rattle.rail_routes.specs.Net.{is_route}
use Rattle.rail_track.proofs.CallerLemmas.{same_name-self}
use Rattle.rail_routes.proofs.Restorings.{found_last, fresh_route, without_last}
use Rattle.rail_routes.proofs.network.Network.add_route.Goals as goal

pub count_each-requires-clause-fits : goal.count_each-requires-clause-fits
count_each-requires-clause-fits c = λ name.
    let kept : times same_name c.reserve.new.self name ≡ times same_name c.self.inside.routed name = ap (λ es. unwrap_or (lookup (same_name name) es) 0) c.reserve.ensures.entries in
    omega (arith, kept, c.self.invariant.routed name, c.self.invariant.sound.distinct.few_routes, route_uses-le name c.self.inside.routes, count_by-le-length (same_name name) (c.args.route.from ∷ c.args.route.to ∷ []))

pub count_sections-requires-clause-room : goal.count_sections-requires-clause-room
count_sections-requires-clause-room c =
    let routes = c.self.inside.routes in
    let route = c.args.route in
    let last = (λ i. get_or ((c.as_slice.ensures ∙ c.in_ok-push.ensures.ok) i) (length (c.as_slice-index.ensures i)) c.index-as_slice-index.result) ∙ get_or_push routes route c.index-as_slice-index.result (length routes) refl in
    rw (c.index-as_slice-index.is ∙ last, ← c.count_of_sections.ensures) c.in_ok-reserve-2.ensures.ok

pub count_sections-requires-clause-fits : goal.count_sections-requires-clause-fits
count_sections-requires-clause-fits c =
    let routes = c.self.inside.routes in
    let route = c.args.route in
    let fits = route_fits c.args.self.now route (sym c.in_default.ensures) in
    let last = (λ i. get_or ((c.as_slice.ensures ∙ c.in_ok-push.ensures.ok) i) (length (c.as_slice-index.ensures i)) c.index-as_slice-index.result) ∙ get_or_push routes route c.index-as_slice-index.result (length routes) refl in
    rw (c.index-as_slice-index.is ∙ last) (λ name.
    let kept : times same_name c.reserve-2.new.self name ≡ times same_name c.self.inside.claimed name = ap (λ es. unwrap_or (lookup (same_name name) es) 0) c.reserve-2.ensures.entries in
    omega (
      arith,
      kept,
      c.self.invariant.claimed name,
      c.self.invariant.sound.distinct.few_routes,
      claims_of-le name routes (sound_short (lists_of c.self.inside) c.self.invariant.sound),
      short_length route fits.1,
      count_by-le-length (same_name name) (sections_of route),
    ))

pub invariant_of-self-2 : goal.invariant_of-self-2
invariant_of-self-2 c =
    let is = c.self.invariant in
    let routes = c.self.inside.routes in
    let route = c.args.route in
    let last = (λ i. get_or ((c.as_slice.ensures ∙ c.in_ok-push.ensures.ok) i) (length (c.as_slice-index.ensures i)) c.index-as_slice-index.result) ∙ get_or_push routes route c.index-as_slice-index.result (length routes) refl in
    rw c.in_ok-push.ensures.ok record {
      sound = sound_with_route (lists_of c.self.inside) route is.sound (ap (λ (net : Net). route_refusal net route) c.self.view_is ∙ sym c.in_default.ensures);
      claimed = λ name.
          let kept : times same_name c.reserve-2.new.self name ≡ times same_name c.self.inside.claimed name = ap (λ es. unwrap_or (lookup (same_name name) es) 0) c.reserve-2.ensures.entries in
          omega (arith, kept, is.claimed name, rw (c.index-as_slice-index.is ∙ last) at (c.count_sections.ensures name), sum_by_push (λ r. count_by (same_name name) (sections_of r)) routes route);
      turned = is.turned;
      routed = λ name.
          let kept : times same_name c.reserve.new.self name ≡ times same_name c.self.inside.routed name = ap (λ es. unwrap_or (lookup (same_name name) es) 0) c.reserve.ensures.entries in
          omega (arith, kept, is.routed name, c.count_each.ensures.counted name, sum_by_push (λ (r : Route). count_by (same_name name) (r.from ∷ r.to ∷ [])) routes route);
    }

pub count_of_sections-requires-clause-path : goal.count_of_sections-requires-clause-path
count_of_sections-requires-clause-path c = (short_parts c.args.route (route_fits c.args.self.now c.args.route (sym c.in_default.ensures)).1).0

pub count_of_sections-requires-clause-overlap : goal.count_of_sections-requires-clause-overlap
count_of_sections-requires-clause-overlap c = (short_parts c.args.route (route_fits c.args.self.now c.args.route (sym c.in_default.ensures)).1).1

pub returns-clause-sound : goal.returns-clause-sound
returns-clause-sound c = rw c.in_ok-push.ensures.ok (sound_with_route (lists_of c.self.inside) c.args.route c.self.invariant.sound (ap (λ (net : Net). route_refusal net c.args.route) c.self.view_is ∙ sym c.in_default.ensures))

pub returns-clause-found : goal.returns-clause-found
returns-clause-found c =
    let test = is_route c.args.route.name in
    let fresh = ap (λ (net : Net). list_any test net.routes) c.self.view_is ∙ fresh_route c.args.self.now c.args.route (sym c.in_default.ensures) in
    rw c.in_ok-push.ensures.ok (found_last test c.self.inside.routes c.args.route fresh (same_name-self c.args.route.name))

pub returns-clause-back : goal.returns-clause-back
returns-clause-back c =
    let test = is_route c.args.route.name in
    let fresh = ap (λ (net : Net). list_any test net.routes) c.self.view_is ∙ fresh_route c.args.self.now c.args.route (sym c.in_default.ensures) in
    rw c.in_ok-push.ensures.ok (without_last test c.self.inside.routes c.args.route fresh (same_name-self c.args.route.name) ∙ ap (λ (net : Net). net.routes) c.self.view_is)

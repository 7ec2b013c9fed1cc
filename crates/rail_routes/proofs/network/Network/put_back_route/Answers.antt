use Rattle.std.proofs.Common.{◌≡◌, ℕ, ◌≤◌, true, false, [], ◌∷◌, length, get_or, unwrap_or, count_by, ap, sym, subst, ◌∙◌, arith, insert}
use Rattle.std.specs.List.{list_any}
use Rattle.std.specs.Map.{lookup}
use Rattle.std.proofs.lemmas.List.Edits.{get_or-insert_at}
use Rattle.std.proofs.lemmas.List.Sums.{count_by-le-length}
use Rattle.rail_base.specs.NameForms.{same_name}
use Rattle.rail_track.specs.KeyCounts.{times}
use Rattle.rail_track.proofs.CallerLemmas.{on_ok, all_inserted, find-insert, same_name-self, without-insert}
use Rattle.rail_routes.specs.declared.items.Route.{Route}
use Rattle.rail_routes.specs.Net.{Net, is_route}
use Rattle.rail_routes.specs.SoundNetworks.{IsSoundNetwork}
use Rattle.rail_routes.specs.Uses.{sections_of}
use Rattle.rail_routes.specs.NetworkFields.{lists_of}
use Rattle.rail_routes.proofs.Puts.{sum_by-insert, fresh_by_count}
use Rattle.rail_routes.proofs.Tables.{is_short, route_uses-le, claims_of-le, short_length, short_parts}
use Rattle.rail_routes.proofs.WayChanges.{sound_short}
use Rattle.rail_routes.proofs.network.Network.put_back_route.Goals as goal

-- a route of a sound network is short
short : (net : Net) (i : ℕ) (route : Route) → IsSoundNetwork (record net { routes = insert net.routes i route }) → is_short route ≡ true
short net i route sound =
    let more : Net = record net { routes = insert net.routes i route } in
    all_inserted is_short net.routes i route (sound_short more sound)

-- a route with which a network is sound has a new name
fresh : (net : Net) (index : ℕ) (route : Route) → IsSoundNetwork (record net { routes = insert net.routes index route }) → list_any (is_route route.name) net.routes ≡ false
fresh net index route sound = fresh_by_count (is_route route.name) net.routes index route 0 (same_name-self route.name) (omega (arith, sound.distinct.routes_by_name route.name))

pub insert-requires-clause-fresh : goal.insert-requires-clause-fresh
insert-requires-clause-fresh c =
    ap (λ (net : Net). list_any (is_route c.args.route.name) net.routes) c.self.view_is ∙ fresh c.args.self.now c.args.index c.args.route c.requires.sound

pub count_each-requires-clause-fits : goal.count_each-requires-clause-fits
count_each-requires-clause-fits c = λ name.
    let kept : times same_name c.reserve.new.self name ≡ times same_name c.self.inside.routed name = ap (λ es. unwrap_or (lookup (same_name name) es) 0) c.reserve.ensures.entries in
    omega (arith, kept, c.self.invariant.routed name, c.self.invariant.sound.distinct.few_routes, route_uses-le name c.self.inside.routes, count_by-le-length (same_name name) (c.args.route.from ∷ c.args.route.to ∷ []))

pub count_of_sections-requires-clause-path : goal.count_of_sections-requires-clause-path
count_of_sections-requires-clause-path c = (short_parts c.args.route (short c.args.self.now c.args.index c.args.route c.requires.sound)).0

pub count_of_sections-requires-clause-overlap : goal.count_of_sections-requires-clause-overlap
count_of_sections-requires-clause-overlap c = (short_parts c.args.route (short c.args.self.now c.args.index c.args.route c.requires.sound)).1

pub count_sections-requires-clause-room : goal.count_sections-requires-clause-room
count_sections-requires-clause-room c =
    let routes = c.self.inside.routes in
    let route = c.args.route in
    let within : c.args.index ≤ length routes = omega (arith, c.requires.within, ap (λ (n : Net). length n.routes) c.self.view_is) in
    let there : c.index-as_slice-index.result ≡ route = c.index-as_slice-index.is ∙ ap (λ xs. get_or xs c.args.index c.index-as_slice-index.result) (c.as_slice.ensures ∙ c.in-Ok.ensures.ok) ∙ get_or-insert_at routes c.args.index route c.index-as_slice-index.result within in
    rw (there, ← c.count_of_sections.ensures) (on_ok c.reserve-2.result (sym c.is_err-2.ensures.value ∙ c.if-is_err-2.false) c.reserve-2.ensures.ok)

pub count_sections-requires-clause-fits : goal.count_sections-requires-clause-fits
count_sections-requires-clause-fits c =
    let routes = c.self.inside.routes in
    let route = c.args.route in
    let within : c.args.index ≤ length routes = omega (arith, c.requires.within, ap (λ (n : Net). length n.routes) c.self.view_is) in
    let there : c.index-as_slice-index.result ≡ route = c.index-as_slice-index.is ∙ ap (λ xs. get_or xs c.args.index c.index-as_slice-index.result) (c.as_slice.ensures ∙ c.in-Ok.ensures.ok) ∙ get_or-insert_at routes c.args.index route c.index-as_slice-index.result within in
    let few = short_length route (short c.args.self.now c.args.index route c.requires.sound) in
    rw there (λ name.
    let kept : times same_name c.reserve-2.new.self name ≡ times same_name c.self.inside.claimed name = ap (λ es. unwrap_or (lookup (same_name name) es) 0) c.reserve-2.ensures.entries in
    omega (arith, kept, c.self.invariant.claimed name, c.self.invariant.sound.distinct.few_routes, claims_of-le name routes (sound_short (lists_of c.self.inside) c.self.invariant.sound), few, count_by-le-length (same_name name) (sections_of route)))

pub invariant_of-self-2 : goal.invariant_of-self-2
invariant_of-self-2 c =
    let is = c.self.invariant in
    let routes = c.self.inside.routes in
    let route = c.args.route in
    let within : c.args.index ≤ length routes = omega (arith, c.requires.within, ap (λ (n : Net). length n.routes) c.self.view_is) in
    let there : c.index-as_slice-index.result ≡ route = c.index-as_slice-index.is ∙ ap (λ xs. get_or xs c.args.index c.index-as_slice-index.result) (c.as_slice.ensures ∙ c.in-Ok.ensures.ok) ∙ get_or-insert_at routes c.args.index route c.index-as_slice-index.result within in
    rw c.in-Ok.ensures.ok record {
      sound = subst (λ (n : Net). IsSoundNetwork (record n { routes = insert n.routes c.args.index route })) (sym c.self.view_is) c.requires.sound;
      claimed = λ name.
          let kept : times same_name c.reserve-2.new.self name ≡ times same_name c.self.inside.claimed name = ap (λ es. unwrap_or (lookup (same_name name) es) 0) c.reserve-2.ensures.entries in
          omega (arith, kept, is.claimed name, rw there at (c.count_sections.ensures name), sum_by-insert (λ r. count_by (same_name name) (sections_of r)) routes c.args.index route);
      turned = is.turned;
      routed = λ name.
          let kept : times same_name c.reserve.new.self name ≡ times same_name c.self.inside.routed name = ap (λ es. unwrap_or (lookup (same_name name) es) 0) c.reserve.ensures.entries in
          omega (arith, kept, is.routed name, c.count_each.ensures.counted name, sum_by-insert (λ (r : Route). count_by (same_name name) (r.from ∷ r.to ∷ [])) routes c.args.index route);
    }

pub returns-clause-found : goal.returns-clause-found
returns-clause-found c =
    let route = c.args.route in
    let new = ap (λ (net : Net). list_any (is_route route.name) net.routes) c.self.view_is ∙ fresh c.args.self.now c.args.index route c.requires.sound in
    rw c.in-Ok.ensures.ok (find-insert (is_route route.name) c.self.inside.routes c.args.index route new (same_name-self route.name))

pub returns-clause-back : goal.returns-clause-back
returns-clause-back c =
    let route = c.args.route in
    let new = ap (λ (net : Net). list_any (is_route route.name) net.routes) c.self.view_is ∙ fresh c.args.self.now c.args.index route c.requires.sound in
    rw c.in-Ok.ensures.ok (without-insert (is_route route.name) c.self.inside.routes c.args.index route new (same_name-self route.name) ∙ ap (λ (net : Net). net.routes) c.self.view_is)

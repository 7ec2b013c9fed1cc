use Rattle.std.proofs.Common.{◌≡◌, ◌≤◌, ◌-◌, true, false, get_or, length, Some, sym, ap, ◌∙◌, arith}
use Rattle.std.proofs.lemmas.List.{length-map}
use Rattle.rail_base.specs.declared.refusals.Reason.TheVariants as reason
use Rattle.rail_compile.specs.Itineraries.{is_portal}
use Rattle.rail_routes.specs.Net.{no_route}
use Rattle.rail_compile.specs.Refusals.{of_train}
use Rattle.rail_compile.specs.declared.compiling.ways.Way.{Way}
use Rattle.rail_compile.specs.Ways.{route_at, routes_at}
use Rattle.rail_compile.proofs.Places.{refused_inside, ending_is}
use Rattle.rail_compile.proofs.compiling.itineraries.route_refusal.Goals as goal

pub returns-then-is_some : goal.returns-then-is_some
returns-then-is_some c =
    let net = c.args.network.now in
    let routes = routes_at net c.args.numbers.now in
    let some : 1 ≤ length routes = omega (arith, c.requires.some, length-map c.args.numbers.now (route_at net)) in
    let begun : is_portal net (get_or routes 0 no_route).from ≡ true = ap (λ (w : Way). w.begins_at_portal) (sym c.way_in-first.ensures) ∙ c.if-not-first.false in
    refused_inside net c.args.item routes some begun c.place_refusal-broken.result c.place_refusal-broken.ensures (sym c.is_some.ensures ∙ c.if-is_some.true)

pub returns-then-not-last : goal.returns-then-not-last
returns-then-not-last c =
    let net = c.args.network.now in
    let routes = routes_at net c.args.numbers.now in
    let count : length routes ≡ length c.args.numbers.now = length-map c.args.numbers.now (route_at net) in
    let some : 1 ≤ length routes = omega (arith, c.requires.some, count) in
    let begun : is_portal net (get_or routes 0 no_route).from ≡ true = ap (λ (w : Way). w.begins_at_portal) (sym c.way_in-first.ensures) ∙ c.if-not-first.false in
    let at_end : is_portal net (get_or routes (length routes - 1) no_route).to ≡ false =
    ap (λ k. is_portal net (get_or routes (k - 1) no_route).to) count ∙ ap (λ (w : Way). w.ends_at_portal) (sym c.way_in-last.ensures) ∙ c.if-not-last.true in
    ap Some c.of_train-then-not-last.ensures
    ∙ ap (λ k. Some (of_train reason.NotPortal c.args.item k)) (sym count)
    ∙ sym (ending_is net c.args.item routes some begun c.place_refusal-broken.result false c.place_refusal-broken.ensures (sym c.is_some.ensures ∙ c.if-is_some.false) at_end)

pub returns : goal.returns
returns c =
    let net = c.args.network.now in
    let routes = routes_at net c.args.numbers.now in
    let count : length routes ≡ length c.args.numbers.now = length-map c.args.numbers.now (route_at net) in
    let some : 1 ≤ length routes = omega (arith, c.requires.some, count) in
    let begun : is_portal net (get_or routes 0 no_route).from ≡ true = ap (λ (w : Way). w.begins_at_portal) (sym c.way_in-first.ensures) ∙ c.if-not-first.false in
    let at_end : is_portal net (get_or routes (length routes - 1) no_route).to ≡ true =
    ap (λ k. is_portal net (get_or routes (k - 1) no_route).to) count ∙ ap (λ (w : Way). w.ends_at_portal) (sym c.way_in-last.ensures) ∙ c.if-not-last.false in
    sym (ending_is net c.args.item routes some begun c.place_refusal-broken.result true c.place_refusal-broken.ensures (sym c.is_some.ensures ∙ c.if-is_some.false) at_end)

use Rattle.std.proofs.Common.{[], ◌∷◌, ◌++◌, ◌∙◌}
use Rattle.rail_gen.proofs.Ranges.{routes_then}
use Rattle.rail_gen.proofs.ways.add_westbound_routes.Goals as goal

pub returns : goal.returns
returns c =
    let net = c.args.network.now in
    let r1 = c.in_ok-west_in.field-0 in
    let r2 = c.in_ok-west_in-2.field-0 in
    let r3 = c.in_ok-west_out.field-0 in
    let r4 = c.in_ok-west_out-2.field-0 in
    let two = routes_then net c.add_route.new.self c.add_route-2.new.self (r1 ∷ []) (r2 ∷ []) c.in_ok-add_route.ensures.added c.in_ok-add_route-2.ensures.added in
    let three = routes_then net c.add_route-2.new.self c.add_route-3.new.self (r1 ∷ r2 ∷ []) (r3 ∷ []) two c.in_ok-add_route-3.ensures.added in
    let four = routes_then net c.add_route-3.new.self c.add_route-4.new.self (r1 ∷ r2 ∷ r3 ∷ []) (r4 ∷ []) three c.in_ok-add_route-4.ensures.added in
    four ∙ (λ i. record net {
      routes = net.routes ++ (c.in_ok-west_in.ensures i ∷ c.in_ok-west_in-2.ensures i ∷ c.in_ok-west_out.ensures i ∷ c.in_ok-west_out-2.ensures i ∷ []);
    })

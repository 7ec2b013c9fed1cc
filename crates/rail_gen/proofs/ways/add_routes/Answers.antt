use Rattle.std.proofs.Common.{◌∷◌, [], ◌++◌, codes, ap, ◌∙◌}
use Rattle.rail_routes.specs.Net.{Net}
use Rattle.rail_gen.specs.LinePlants.{at_station, over, route_over, station_routes}
use Rattle.rail_gen.proofs.Ranges.{station_more}
use Rattle.rail_gen.proofs.ways.add_routes.Goals as goal

pub loop-k-preserved : goal.loop-k-preserved
loop-k-preserved c =
    let old = c.args.network.now in
    let count = c.args.count in
    c.in_ok-add_station_routes.ensures
    ∙ ap (λ (net : Net). record net { routes = net.routes ++ station_routes count c.loop-k.k }) c.loop-k.invariant
    ∙ ap (λ xs. record old { routes = xs })
    (station_more old.routes
    (route_over (codes "estart") (codes "West") (codes "H1") (over (codes "X0") (codes "w") (codes "a1"))
    ∷ route_over (codes "wstart") (codes "East") (at_station (codes "G") count) (over (at_station (codes "X") count) (codes "z") (at_station (codes "f") count)) ∷ [])
    (station_routes count) c.loop-k.k c.loop-k.auto.k)

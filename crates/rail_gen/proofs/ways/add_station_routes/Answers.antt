use Rattle.rail_gen.specs.LinePlants.{eastbound_routes, westbound_routes}
use Rattle.rail_gen.proofs.Ranges.{routes_then}
use Rattle.rail_gen.proofs.ways.add_station_routes.Goals as goal

pub returns : goal.returns
returns c =
    routes_then c.args.network.now c.add_eastbound_routes.new.network c.add_westbound_routes.new.network (eastbound_routes c.args.count c.args.k) (westbound_routes c.args.k)
    c.in_ok-add_eastbound_routes.ensures c.in_ok-add_westbound_routes.ensures

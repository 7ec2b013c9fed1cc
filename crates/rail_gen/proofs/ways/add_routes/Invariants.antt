use Rattle.std.proofs.Common.{◌≡◌, ◌-◌, ◌∷◌, ◌++◌, codes}
use Rattle.std.specs.List.{flat_map, range_with_len}
use Rattle.rail_gen.specs.LinePlants.{at_station, over, route_over, station_routes}
use Rattle.rail_gen.proofs.ways.add_routes.Given as goal

abbrev pub invariant-loop-k : goal.invariant-loop-k
invariant-loop-k l = l.network ≡ record l.fn.network {
  routes = l.fn.network.routes
      ++ route_over (codes "estart") (codes "West") (codes "H1") (over (codes "X0") (codes "w") (codes "a1"))
      ∷ route_over (codes "wstart") (codes "East") (at_station (codes "G") l.count) (over (at_station (codes "X") l.count) (codes "z") (at_station (codes "f") l.count))
      ∷ flat_map (station_routes l.count) (range_with_len 1 (l.k - 1));
}

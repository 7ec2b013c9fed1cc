use Rattle.std.proofs.Common.{◌≡◌, map, take}
use Rattle.rail_routes.specs.declared.items.Route.{Route}
use Rattle.rail_compile.proofs.compiling.ways.route_names.Given as goal

abbrev pub invariant-loop-route : goal.invariant-loop-route
invariant-loop-route l = l.names.keys ≡ map (λ (route : Route). route.name) (take l.route-index l.route-items)

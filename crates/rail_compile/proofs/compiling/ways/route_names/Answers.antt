use Rattle.std.proofs.Common.{◌≡◌, ℕ, ◌≤◌, List, sym, subst}
use Rattle.std.specs.Prelude.{count_by}
use Rattle.rail_plan.proofs.CallerLemmas.{inserted}
use Rattle.rail_routes.specs.declared.items.Route.{Route}
use Rattle.rail_routes.specs.Net.{is_route}
use Rattle.rail_compile.proofs.Names.{distinct_from_apart}
use Rattle.rail_compile.proofs.Ways.{routes_apart}
use Rattle.rail_compile.proofs.compiling.ways.route_names.Goals as goal

pub loop-route-preserved : goal.loop-route-preserved
loop-route-preserved c =
    let routes = c.routes-route-items.result.now in
    let same : routes ≡ c.args.network.now.routes = c.routes-route-items.ensures.routes in
    let few : (name : List ℕ) → count_by (is_route name) routes ≤ 1 = λ name. subst (λ (rs : List Route). count_by (is_route name) rs ≤ 1) (sym same) (c.routes-route-items.ensures.sound.distinct.routes_by_name name) in
    inserted (λ (route : Route). route.name) routes c.loop-route.route-index c.route-item.result c.loop-route.names.keys c.insert.new.self.keys
    (distinct_from_apart (λ (route : Route). route.name) routes (routes_apart routes few)) c.loop-route-test.true c.route-item.is c.loop-route.invariant c.in_ok-insert.ensures.keys

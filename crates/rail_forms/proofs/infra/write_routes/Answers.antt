use Rattle.std.proofs.Common.{sym, subst, List, ℕ, arith}
use Rattle.rail_routes.specs.declared.items.Route.{Route}
use Rattle.rail_forms.specs.Infra.{route_lines}
use Rattle.rail_text.specs.Writes.{WritesText}
use Rattle.rail_forms.proofs.InfraTexts.{lines_whole}
use Rattle.rail_text.proofs.CallerLemmas.{both_written, part_written}
use Rattle.rail_forms.proofs.infra.write_routes.Goals as goal

pub returns-in_err-write_route : goal.returns-in_err-write_route
returns-in_err-write_route g c =
    let routes = c.routes-route-items.result.now in
    let Written : List ℕ → Type 0 = λ text. WritesText g.O.Sink c.args.out.now c.write_route.new.out text c.from_residual.result in
    let whole = lines_whole c.args.network.now.sections routes c.loop-route.route-index c.route-item.result (omega arith) c.route-item.is in
    let here = both_written g.O.Sink _ _ _ _ _ _ c.loop-route.invariant c.in_err-write_route.ensures in
    let all : Written (route_lines c.args.network.now.sections routes) = subst Written (sym whole) (part_written g.O.Sink _ _ _ _ _ c.from_residual.result c.from_residual.ensures.0 here) in
    subst (λ (rs : List Route). Written (route_lines c.args.network.now.sections rs)) c.routes-route-items.ensures.routes all

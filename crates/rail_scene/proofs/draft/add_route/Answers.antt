use Rattle.std.proofs.Common.{◌≡◌, None, subst}
use Rattle.std.specs.Result.{OnOk, IfErr}
use Rattle.toml.specs.View.{view}
use Rattle.rail_routes.specs.declared.items.Route.{Route}
use Rattle.rail_routes.specs.RouteRules.{route_tests}
use Rattle.rail_base.specs.FirstRefusals.{first_failing}
use Rattle.rail_track.specs.NetFaults.{Answers}
use Rattle.rail_base.proofs.CallerLemmas.{passed_up}
use Rattle.rail_scene.specs.Keys.{route_keys}
use Rattle.rail_scene.specs.Entries.{route_of}
use Rattle.rail_scene.specs.Values.{value_tests}
use Rattle.rail_scene.proofs.Segments.{answers_before, net_after}
use Rattle.rail_scene.proofs.draft.add_route.Goals as goal

pub returns-in_err-item-clause-refused : goal.returns-in_err-item-clause-refused
returns-in_err-item-clause-refused c =
    let node = view c.args.table.now in
    let net = c.args.network.now in
    passed_up c.from_residual.result _ _ c.from_residual.ensures.1
    (answers_before (value_tests 1 (route_keys c.args.version) node) (route_tests net (route_of c.args.version node)) _ c.in_err-item.ensures.refused)

pub returns-clause-refused : goal.returns-clause-refused
returns-clause-refused c =
    let node = view c.args.table.now in
    let net = c.args.network.now in
    let added = c.add_route.result in
    let accepted : OnOk added (first_failing (route_tests net (route_of c.args.version node)) ≡ None) = subst (λ (item : Route). OnOk added (first_failing (route_tests net item) ≡ None)) c.in_ok-item.ensures.spelled c.add_route.ensures.accepted in
    let refused : IfErr added (Answers (first_failing (route_tests net (route_of c.args.version node)))) = subst (λ (item : Route). IfErr added (Answers (first_failing (route_tests net item)))) c.in_ok-item.ensures.spelled c.add_route.ensures.refused in
    (net_after (value_tests 1 (route_keys c.args.version) node) (route_tests net (route_of c.args.version node)) added c.in_ok-item.ensures.accepted accepted refused).1

pub returns-clause-accepted : goal.returns-clause-accepted
returns-clause-accepted c =
    let node = view c.args.table.now in
    let net = c.args.network.now in
    let added = c.add_route.result in
    let accepted : OnOk added (first_failing (route_tests net (route_of c.args.version node)) ≡ None) = subst (λ (item : Route). OnOk added (first_failing (route_tests net item) ≡ None)) c.in_ok-item.ensures.spelled c.add_route.ensures.accepted in
    let refused : IfErr added (Answers (first_failing (route_tests net (route_of c.args.version node)))) = subst (λ (item : Route). IfErr added (Answers (first_failing (route_tests net item)))) c.in_ok-item.ensures.spelled c.add_route.ensures.refused in
    (net_after (value_tests 1 (route_keys c.args.version) node) (route_tests net (route_of c.args.version node)) added c.in_ok-item.ensures.accepted accepted refused).0

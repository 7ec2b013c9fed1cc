use Rattle.std.proofs.Common.{◌+◌, ap, sym, ◌∙◌}
use Rattle.std.proofs.lemmas.List.{drop_all}
use Rattle.rail_base.specs.FirstRefusals.{first_failing}
use Rattle.rail_routes.specs.RouteRules.{step_tests}
use Rattle.rail_routes.proofs.Leading.{step_refused}
use Rattle.rail_routes.proofs.network.leading.step_refusal.Goals as goal

pub returns-then-leads_wrong : goal.returns-then-leads_wrong
returns-then-leads_wrong c =
    let i = c.loop-index.index in
    sym (step_refused c.args.track.now c.args.end.now c.args.steps.now (i + 1) i c.loop-index.joint c.index-steps-index.result c.loop-index-test.true c.index-steps-index.is (sym c.if-leads_wrong.ensures)) ∙ c.loop-index.invariant

pub returns : goal.returns
returns c =
    let i = c.loop-index.index in
    sym (ap (λ steps. first_failing (step_tests c.args.track.now c.args.end.now (i + 1) c.loop-index.joint steps)) (drop_all i c.args.steps.now c.loop-index-test.false)) ∙ c.loop-index.invariant

use Rattle.std.proofs.Common.{◌≡◌, ◌+◌, drop, ap, sym, ◌∙◌, arith}
use Rattle.rail_base.specs.FirstRefusals.{first_failing}
use Rattle.rail_routes.specs.RouteRules.{lead_tests}
use Rattle.rail_routes.proofs.Leading.{lead_passed}
use Rattle.rail_routes.proofs.network.leading.lead_refusal.Goals as goal

pub loop-index-preserved : goal.loop-index-preserved
loop-index-preserved c =
    let track = c.args.track.now in
    let steps = c.args.steps.now in
    let first = c.args.first in
    let i = c.loop-index.index in
    let step = c.index-steps-index.result in
    let next : first + (i + 1) ≡ first + i + 1 = omega arith in
    ap (λ n. first_failing (lead_tests track n step.to (drop (i + 1) steps))) next
    ∙ sym (lead_passed track steps (first + i) i c.loop-index.joint step c.loop-index-test.true c.index-steps-index.is (sym c.leads_on.ensures ∙ c.if-not-leads_on.false))
    ∙ c.loop-index.invariant

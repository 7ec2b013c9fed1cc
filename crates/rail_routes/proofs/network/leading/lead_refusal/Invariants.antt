use Rattle.std.proofs.Common.{◌≡◌, ◌+◌, drop}
use Rattle.rail_base.specs.FirstRefusals.{first_failing}
use Rattle.rail_routes.specs.RouteRules.{lead_tests}
use Rattle.rail_routes.proofs.network.leading.lead_refusal.Given as goal

abbrev pub invariant-loop-index : goal.invariant-loop-index
invariant-loop-index l =
    first_failing (lead_tests l.track (l.first + l.index) l.joint (drop l.index l.steps))
    ≡ first_failing (lead_tests l.track l.first l.fn.start l.steps)

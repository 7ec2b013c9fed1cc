use Rattle.std.proofs.Common.{◌≡◌, ◌+◌, drop}
use Rattle.rail_base.specs.FirstRefusals.{first_failing}
use Rattle.rail_routes.specs.RouteRules.{step_tests}
use Rattle.rail_routes.proofs.network.leading.step_refusal.Given as goal

abbrev pub invariant-loop-index : goal.invariant-loop-index
invariant-loop-index l =
    first_failing (step_tests l.track l.end (l.index + 1) l.joint (drop l.index l.steps))
    ≡ first_failing (step_tests l.track l.end 1 l.fn.start l.steps)

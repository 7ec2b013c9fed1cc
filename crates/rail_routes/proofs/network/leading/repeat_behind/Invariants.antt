use Rattle.std.proofs.Common.{◌≡◌, ◌+◌, ◌++◌, length, drop}
use Rattle.rail_base.specs.declared.refusals.Reason.TheVariants.{RouteRepeat}
use Rattle.rail_base.specs.FirstRefusals.{first_failing, tests_over}
use Rattle.rail_track.specs.NetFaults.{refused_where}
use Rattle.rail_routes.specs.RouteRules.{repeats_behind, occurred}
use Rattle.rail_routes.proofs.network.leading.repeat_behind.Given as goal

abbrev pub invariant-loop-index : goal.invariant-loop-index
invariant-loop-index l =
    first_failing (tests_over (λ n step. refused_where RouteRepeat n (occurred (l.first ++ l.steps) n step)) (length l.first + l.index + 1) (drop l.index l.steps))
    ≡ first_failing (repeats_behind l.first l.steps)

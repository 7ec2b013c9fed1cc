use Rattle.std.proofs.Common.{◌≡◌, ◌*◌, ◌^◌, ◌≤◌}
use Rattle.rail_rules.specs.Numbers.{sum_below}
use Rattle.rail_rules.specs.Plant.{call_after}
use Rattle.rail_delay.specs.Reports.{call_late}
use Rattle.rail_delay.proofs.totals.calls_late.Given as goal

abbrev pub invariant-loop-index : goal.invariant-loop-index
invariant-loop-index l = (l.late ≡ sum_below (λ m. call_late l.row m (call_after l.plant l.train m)) l.index) × (l.late ≤ 2 * 2 ^ 64 * l.index)

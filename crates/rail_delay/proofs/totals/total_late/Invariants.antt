use Rattle.std.proofs.Common.{◌≡◌, ◌+◌, ◌*◌, ◌^◌, ◌≤◌}
use Rattle.rail_base.specs.declared.limits.TheConstants.{ITINERARY_ROUTES}
use Rattle.rail_rules.specs.Numbers.{sum_below}
use Rattle.rail_delay.specs.Reports.{train_late}
use Rattle.rail_delay.proofs.totals.total_late.Given as goal

abbrev pub invariant-loop-number : goal.invariant-loop-number
invariant-loop-number l = (l.late ≡ sum_below (train_late l.plant l.delays.visits) l.number) × (l.late ≤ (2 * ITINERARY_ROUTES + 1) * 2 ^ 64 * l.number)

use Rattle.std.proofs.Common.{◌≡◌, ◌≤◌, ◌*◌}
use Rattle.rail_rules.specs.Numbers.{sum_below}
use Rattle.rail_rules.specs.Plant.{train}
use Rattle.rail_plan.specs.PlanFaults.{bare}
use Rattle.rail_plan.specs.MoveLineCounts.{lines_of}
use Rattle.rail_plan.proofs.bounds.event_bound.Given as goal
use Rattle.rail_base.specs.declared.limits.TheConstants.{TRAIN_LINES}

abbrev pub invariant-loop-index : goal.invariant-loop-index
invariant-loop-index l = record {
  sum : l.lines ≡ sum_below (λ t. lines_of (train (bare l.tables) t)) l.index;
  few : l.lines ≤ l.index * TRAIN_LINES;
}

use Rattle.std.proofs.Common.{◌≡◌, ◌≤◌, ◌*◌, get_or}
use Rattle.rail_rules.specs.Numbers.{sum_below}
use Rattle.rail_rules.specs.Plant.{no_move, train}
use Rattle.rail_plan.specs.PlanFaults.{bare}
use Rattle.rail_plan.specs.MoveLineCounts.{row_lines}
use Rattle.rail_plan.proofs.bounds.train_lines.Given as goal
use Rattle.rail_base.specs.declared.limits.TheConstants.{MOVE_LINES}

abbrev pub invariant-loop-row : goal.invariant-loop-row
invariant-loop-row l = record {
  sum : l.lines ≡ sum_below (λ m. row_lines (get_or (train (bare l.tables) l.fn.number).moves m no_move)) l.row-index;
  few : l.lines ≤ l.row-index * MOVE_LINES;
}

use Rattle.std.proofs.Common.{◌≡◌, ◌+◌, drop}
use Rattle.rail_plan.specs.PlanFaults.{bare, metres_of}
use Rattle.rail_plan.proofs.standing.route_length.Given as goal

abbrev pub invariant-loop-section : goal.invariant-loop-section
invariant-loop-section l = l.metres + metres_of (bare l.tables) (drop l.section-index l.row.sections) ≡ metres_of (bare l.tables) l.row.sections

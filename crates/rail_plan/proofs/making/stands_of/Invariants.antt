use Rattle.std.proofs.Common.{◌≡◌, map, take}
use Rattle.rail_plan.specs.PlanFaults.{bare, standing_of}
use Rattle.rail_plan.proofs.making.stands_of.Given as goal

abbrev pub invariant-loop-row : goal.invariant-loop-row
invariant-loop-row l = l.stands ≡ map (standing_of (bare l.tables) l.metres) (take l.row-index l.moves)

use Rattle.std.proofs.Common.{◌≡◌, drop}
use Rattle.rail_rules.specs.Plant.{shortest_end}
use Rattle.rail_plan.specs.PlanFaults.{bare, metres_of}
use Rattle.rail_plan.proofs.standing.shortest_end.Given as goal

abbrev pub invariant-loop-start : goal.invariant-loop-start
invariant-loop-start l = record {
  rest : l.rest ≡ metres_of (bare l.tables) (drop l.start l.route);
  same : shortest_end (bare l.tables) l.metres (drop l.start l.route) ≡ shortest_end (bare l.tables) l.metres l.route;
}

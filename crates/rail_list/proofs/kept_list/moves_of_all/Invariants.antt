use Rattle.std.proofs.Common.{◌≡◌, ◌*◌, ◌≤◌}
use Rattle.rail_base.specs.declared.limits.TheConstants.{ITINERARY_ROUTES}
use Rattle.rail_rules.specs.Numbers.{sum_below}
use Rattle.rail_place.specs.Tables.{moves_in}
use Rattle.rail_list.proofs.kept_list.moves_of_all.Given as goal

abbrev pub invariant-loop-number : goal.invariant-loop-number
invariant-loop-number l = record {
  sum : l.sum ≡ sum_below (moves_in l.moves).moves l.number;
  few : l.sum ≤ l.number * ITINERARY_ROUTES;
}

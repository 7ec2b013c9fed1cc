use Rattle.std.proofs.Common.{◌≡◌, ℕ, ◌<◌, ◌≤◌, [], true, length, get_or}
use Rattle.rail_base.specs.declared.limits.TheConstants.{ROUTE_SECTIONS, SECTIONS}
use Rattle.rail_rules.specs.Numbers.{is_in}
use Rattle.rail_tests_calls.proofs.plants.row_is_small.Given as goal

abbrev pub invariant-loop-row : goal.invariant-loop-row
invariant-loop-row l = record {
  narrow : (m : ℕ) → m < l.row-index → length (get_or l.need m []) ≤ ROUTE_SECTIONS;
  in_range : (m x : ℕ) → m < l.row-index → is_in x (get_or l.need m []) ≡ true → x < SECTIONS;
}

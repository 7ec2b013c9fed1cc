use Rattle.std.proofs.Common.{◌≡◌, length}
use Rattle.rail_rules.specs.Plant.{trains}
use Rattle.rail_tests_reports.proofs.reports.noted.Given as goal

abbrev pub invariant-loop-entry : goal.invariant-loop-entry
invariant-loop-entry l = length l.delays.accounts ≡ trains l.plant

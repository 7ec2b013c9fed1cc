use Rattle.std.proofs.Common.{◌≡◌, [], replicate}
use Rattle.rail_tests_calls.proofs.plants.no_overlaps.Given as goal

abbrev pub invariant-loop : goal.invariant-loop
invariant-loop l = l.overs ≡ replicate l.counter []

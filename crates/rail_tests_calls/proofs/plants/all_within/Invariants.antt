use Rattle.std.proofs.Common.{ℕ, ◌<◌, ◌≤◌, get_or}
use Rattle.rail_place.specs.Tables.{moves_in}
use Rattle.rail_tests_calls.proofs.plants.all_within.Given as goal

abbrev pub invariant-loop-number : goal.invariant-loop-number
invariant-loop-number l = (t : ℕ) → t < l.number → get_or l.positions t 0 ≤ (moves_in l.moves).moves t

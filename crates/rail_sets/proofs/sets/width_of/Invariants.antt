use Rattle.std.proofs.Common.{◌≢◌, ℕ, ◌<◌, ◌≤◌, get_or}
use Rattle.rail_sets.proofs.sets.width_of.Given as goal

abbrev pub invariant-loop-index : goal.invariant-loop-index
invariant-loop-index l = record {
  few : l.width ≤ l.index;
  all : (j : ℕ) → j < l.index → get_or l.set j 0 ≢ 0 → j < l.width;
}

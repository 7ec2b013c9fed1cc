use Rattle.std.proofs.Common.{◌≡◌, ℕ, ◌+◌, ◌-◌, ◌<◌, ◌≤◌, get_or, length}
use Rattle.rail_base.proofs.runs.repeats.Given as goal

abbrev pub invariant-loop-count : goal.invariant-loop-count
invariant-loop-count l = record {
  bound : l.count ≤ length l.list;
  same : (k : ℕ) → k < l.count → get_or l.list k 0 ≡ l.train;
}

abbrev pub decreases-loop-count : goal.decreases-loop-count
decreases-loop-count l = length l.list + 1 - l.count

abbrev pub invariant-loop-count-2 : goal.invariant-loop-count-2
invariant-loop-count-2 l = record {
  bound : l.count ≤ length l.list;
  same : (k : ℕ) → k < l.count → get_or l.list k 0 ≡ l.train;
}

abbrev pub decreases-loop-count-2 : goal.decreases-loop-count-2
decreases-loop-count-2 l = length l.list - l.count

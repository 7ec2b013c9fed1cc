use Rattle.std.proofs.Common.{◌≡◌, ℕ, ◌+◌, ◌-◌, ◌<◌, ◌≤◌, get_or, length}
use Rattle.rail_consequence.proofs.tally.first_other.Given as goal

abbrev pub invariant-loop-number : goal.invariant-loop-number
invariant-loop-number l = record {
  from : l.from ≤ l.number;
  bound : l.number ≤ length l.positions;
  same : (k d : ℕ) → l.from ≤ k → k < l.number → get_or l.positions k d ≡ get_or l.others k d;
}

abbrev pub decreases-loop-number : goal.decreases-loop-number
decreases-loop-number l = length l.positions + 1 - l.number

abbrev pub invariant-loop-number-2 : goal.invariant-loop-number-2
invariant-loop-number-2 l = record {
  from : l.from ≤ l.number;
  bound : l.number ≤ length l.positions;
  same : (k d : ℕ) → l.from ≤ k → k < l.number → get_or l.positions k d ≡ get_or l.others k d;
}

abbrev pub decreases-loop-number-2 : goal.decreases-loop-number-2
decreases-loop-number-2 l = length l.positions - l.number

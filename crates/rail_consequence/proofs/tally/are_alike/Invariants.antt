use Rattle.std.proofs.Common.{◌≡◌, ℕ, ◌<◌, ◌≤◌, get_or, IsTrue}
use Rattle.rail_consequence.proofs.tally.are_alike.Given as goal

abbrev pub invariant-loop-number : goal.invariant-loop-number
invariant-loop-number l =
    IsTrue l.same → (k d : ℕ) → l.from ≤ k → k < l.number → get_or l.positions k d ≡ get_or l.others k d

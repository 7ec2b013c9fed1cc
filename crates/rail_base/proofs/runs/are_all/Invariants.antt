use Rattle.std.proofs.Common.{◌≡◌, ℕ, ◌<◌, ◌≤◌, get_or, IsTrue}
use Rattle.rail_base.proofs.runs.are_all.Given as goal

abbrev pub invariant-loop-index : goal.invariant-loop-index
invariant-loop-index l =
    IsTrue l.same → (k : ℕ) → l.from ≤ k → k < l.index → get_or l.list k 0 ≡ l.train

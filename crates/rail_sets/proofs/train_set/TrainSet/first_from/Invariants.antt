use Rattle.std.proofs.Common.{◌≡◌, ℕ, ◌/◌, ◌<◌, ◌≤◌, false}
use Rattle.rail_sets.specs.TrainSets.{has_train}
use Rattle.rail_sets.proofs.train_set.TrainSet.first_from.Given as goal

-- the words so far have none
abbrev pub invariant-loop-index : goal.invariant-loop-index
invariant-loop-index l = (t : ℕ) → l.number ≤ t → t / 64 < l.index → has_train l.self t ≡ false

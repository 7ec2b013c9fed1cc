use Rattle.std.proofs.Common.{◌≡◌, ℕ, ◌||◌, take}
use Rattle.rail_rules.specs.Numbers.{is_in}
use Rattle.rail_sets.specs.TrainSets.{has_train}
use Rattle.rail_consequence.proofs.train_list.insert_each.Given as goal

abbrev pub invariant-loop-train : goal.invariant-loop-train
invariant-loop-train l = (t : ℕ) → has_train l.set t ≡ (is_in t (take l.train-index l.trains) || has_train l.initial.set t)

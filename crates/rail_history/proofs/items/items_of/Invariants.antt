use Rattle.std.proofs.Common.{◌≡◌, ◌++◌, length}
use Rattle.rail_history.specs.ListItems.{spelled_by}
use Rattle.rail_history.proofs.items.items_of.Given as goal

abbrev pub invariant-loop-train : goal.invariant-loop-train
invariant-loop-train l = spelled_by l.items.items ++ l.left ≡ l.fn.list

abbrev pub decreases-loop-train : goal.decreases-loop-train
decreases-loop-train l = length l.left

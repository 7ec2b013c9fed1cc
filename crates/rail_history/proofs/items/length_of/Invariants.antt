use Rattle.std.proofs.Common.{◌≡◌, length, take}
use Rattle.rail_history.specs.ListItems.{spelled_by}
use Rattle.rail_history.proofs.items.length_of.Given as goal

abbrev pub invariant-loop-item : goal.invariant-loop-item
invariant-loop-item l = l.count ≡ length (spelled_by (take l.item-index l.items))

use Rattle.std.proofs.Common.{◌≤◌, List, length, take}
use Rattle.std.specs.List.{All}
use Rattle.rail_history.specs.declared.items.ListItem.{ListItem}
use Rattle.rail_history.specs.ListItems.{spelled_by}
use Rattle.rail_history.proofs.items.longest.Given as goal

abbrev pub invariant-loop-list : goal.invariant-loop-list
invariant-loop-list l = All (λ (items : List ListItem). length (spelled_by items) ≤ l.most) (take l.list-index l.lists)

use Rattle.std.proofs.Common.{◌≡◌, take, vec_capacity}
use Rattle.rail_history.specs.ListItems.{spelled_by}
use Rattle.rail_history.proofs.items.spell.Given as goal

abbrev pub invariant-loop-item : goal.invariant-loop-item
invariant-loop-item l = record {
  spelled : l.list.items ≡ spelled_by (take l.item-index l.items);
  room : vec_capacity l.list ≡ vec_capacity l.fn.list;
}

use Rattle.std.proofs.Common.{◌≡◌, true, map, take}
use Rattle.std.specs.List.{list_all}
use Rattle.toml.specs.View.{items_of, items_view}
use Rattle.rail_scene_text.proofs.values.array.Given as goal

abbrev pub invariant-loop-item : goal.invariant-loop-item
invariant-loop-item g l = record {
  values : items_view l.values.items ≡ items_of (map g.W.Written.data_of (take l.item-index l.items));
  typed : list_all g.W.Written.is_typed (take l.item-index l.items) ≡ true;
}

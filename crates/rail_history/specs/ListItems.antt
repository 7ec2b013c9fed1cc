-- Lists of trains as items.
use Rattle.std.specs.Prelude.{ℕ, List, flat_map, replicate}
use Rattle.rail_history.specs.declared.items.ListItem.{ListItem}

-- the train of an item, as often as it is taken
abbrev pub copies_of : ListItem → List ℕ
copies_of item = replicate item.count item.train

-- the list that the items spell
abbrev pub spelled_by : List ListItem → List ℕ
spelled_by items = flat_map copies_of items

-- The names of the items of a scene file, whatever else is wrong in it.
use Rattle.std.specs.Prelude.{ℕ, ◌-◌, ◌==◌, cond, List, Option, None, option_and_then, slice_get}
use Rattle.toml.specs.Data.{Data}
use Rattle.rail_base.specs.declared.refusals.Part.{Part}
use Rattle.rail_scene.specs.declared.keys.KeyName.TheVariants as word
use Rattle.rail_scene.specs.declared.keys.ListPart.{ListPart}
use Rattle.rail_scene.specs.Fields.{elements_at, name_at}
use Rattle.rail_scene.specs.Keys.{key_of, list_in, list_key}

-- the item of this number, counted from 1
abbrev pub item_at : {X : Type 0} → ℕ → List X → Option X
item_at item items = cond (item == 0) None (slice_get items (item - 1))

-- the table of an item of a part
abbrev pub item_table : Part → ℕ → Data → Option Data
item_table part item root = option_and_then (λ (list : ListPart). item_at item (elements_at (list_key list) root)) (list_in part)

-- the name that the table of an item gives, where it is one
abbrev pub item_name : Part → ℕ → Data → Option (List ℕ)
item_name part item root = option_and_then (name_at (key_of word.Name)) (item_table part item root)

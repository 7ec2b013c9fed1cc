use Rattle.std.proofs.Common.{◌≡◌, ◌+◌, drop, map}
use Rattle.toml.specs.View.{view}
use Rattle.rail_base.specs.FirstRefusals.{first_failing}
use Rattle.rail_scene.specs.SceneItems.{with_items}
use Rattle.rail_scene.specs.Order.{list_values}
use Rattle.rail_scene.proofs.draft.Draft.add_list.Given as goal

abbrev pub invariant-loop-index : goal.invariant-loop-index
invariant-loop-index l =
    (first_failing (list_values l.part l.version (l.index + 1) l.self (map view (drop l.index l.tables))) ≡ first_failing (list_values l.part l.version 1 l.initial.self (map view l.tables)))
    × (with_items l.part l.version (map view (drop l.index l.tables)) l.self ≡ with_items l.part l.version (map view l.tables) l.initial.self)

use Rattle.std.proofs.Common.{◌≡◌, ◌+◌, drop, map}
use Rattle.toml.specs.View.{view}
use Rattle.rail_base.specs.FirstRefusals.{first_failing}
use Rattle.rail_scene.specs.Order.{list_forms}
use Rattle.rail_scene.proofs.forms.check_list.Given as goal

abbrev pub invariant-loop-index : goal.invariant-loop-index
invariant-loop-index l = first_failing (list_forms l.part l.fn.version (l.index + 1) (map view (drop l.index l.tables))) ≡ first_failing (list_forms l.part l.fn.version 1 (map view l.tables))

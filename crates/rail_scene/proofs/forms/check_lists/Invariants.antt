use Rattle.std.proofs.Common.{◌≡◌, drop}
use Rattle.toml.specs.View.{view}
use Rattle.rail_base.specs.FirstRefusals.{first_failing}
use Rattle.rail_scene.specs.Order.{forms_of}
use Rattle.rail_scene.proofs.forms.check_lists.Given as goal

abbrev pub invariant-loop-part : goal.invariant-loop-part
invariant-loop-part l = first_failing (forms_of l.version (view l.root) (drop l.part-index l.parts)) ≡ first_failing (forms_of l.version (view l.root) l.parts)

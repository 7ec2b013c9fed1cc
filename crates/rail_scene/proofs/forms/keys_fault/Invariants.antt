use Rattle.std.proofs.Common.{◌≡◌, ◌+◌, drop}
use Rattle.toml.specs.View.{view}
use Rattle.rail_base.specs.FirstRefusals.{first_failing}
use Rattle.rail_scene.specs.Forms.{key_tests}
use Rattle.rail_scene.proofs.forms.keys_fault.Given as goal

abbrev pub invariant-loop-index : goal.invariant-loop-index
invariant-loop-index l = first_failing (key_tests (l.index + 1) (drop l.index l.keys) (view l.table)) ≡ first_failing (key_tests 1 l.keys (view l.table))

use Rattle.std.proofs.Common.{◌∙◌}
use Rattle.rail_scene.proofs.FormSteps.{keys_stop}
use Rattle.rail_scene.proofs.forms.keys_fault.Goals as goal

pub returns-in-Some : goal.returns-in-Some
returns-in-Some c = keys_stop _ _ _ _ _ c.loop-index-test.true c.in-Some.ensures ∙ c.loop-index.invariant

use Rattle.std.proofs.Common.{◌≡◌, false}
use Rattle.rail_base.proofs.CallerLemmas.{passed_up}
use Rattle.rail_base.specs.declared.refusals.Fault.{Fault}
use Rattle.rail_input.specs.Inputs.{refuses_file}
use Rattle.rail_input.proofs.CallerLemmas.{compile_fault}
use Rattle.rail_edit_file.proofs.FileOrder.{edits_fault}
use Rattle.rail_edit_file.proofs.scenes.edit_scene.Goals as goal

pub returns-in_err-scene-2-clause-of_bytes : goal.returns-in_err-scene-2-clause-of_bytes
returns-in_err-scene-2-clause-of_bytes c =
    passed_up c.from_residual-in_err-scene-2.result c.in_err-scene-2.field-0.0 (λ (fault : Fault). refuses_file fault ≡ false) c.from_residual-in_err-scene-2.ensures.1
    (edits_fault c.in_ok-scene.field-0.scene.network c.args.edits.now c.in_err-scene-2.field-0.0 c.in_err-scene-2.ensures.refused)

pub returns-in_err-_plant-clause-of_bytes : goal.returns-in_err-_plant-clause-of_bytes
returns-in_err-_plant-clause-of_bytes c =
    passed_up c.from_residual-in_err-_plant.result c.in_err-_plant.field-0.0 (λ (fault : Fault). refuses_file fault ≡ false) c.from_residual-in_err-_plant.ensures.1
    (compile_fault c.in_ok-scene-2.scene c.in_err-_plant.field-0.0 c.in_err-_plant.ensures.refused)

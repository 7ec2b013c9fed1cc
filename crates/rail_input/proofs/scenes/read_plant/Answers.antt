use Rattle.std.proofs.Common.{◌≡◌, false}
use Rattle.rail_base.proofs.CallerLemmas.{passed_up}
use Rattle.rail_base.specs.declared.refusals.Fault.{Fault}
use Rattle.rail_input.specs.Inputs.{refuses_file}
use Rattle.rail_input.proofs.OfBytes.{compile_fault, scene_fault}
use Rattle.rail_input.proofs.scenes.read_plant.Goals as goal

pub returns-in_err-scene-clause-of_bytes : goal.returns-in_err-scene-clause-of_bytes
returns-in_err-scene-clause-of_bytes c =
    passed_up c.from_residual.result c.in_err-scene.field-0.0 (λ (fault : Fault). refuses_file fault ≡ false) c.from_residual.ensures.1
    (scene_fault c.args.bytes.now c.in_err-scene.field-0.0 c.in_err-scene.ensures.refused)

pub returns-in_err-plant-clause-of_bytes : goal.returns-in_err-plant-clause-of_bytes
returns-in_err-plant-clause-of_bytes c =
    passed_up c.from_residual-in_err-plant.result c.in_err-plant.field-0.0 (λ (fault : Fault). refuses_file fault ≡ false) c.from_residual-in_err-plant.ensures.1
    (compile_fault c.in_ok-scene.scene c.in_err-plant.field-0.0 c.in_err-plant.ensures.refused)

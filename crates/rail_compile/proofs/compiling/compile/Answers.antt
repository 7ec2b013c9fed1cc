use Rattle.std.proofs.Common.{◌≡◌, List, None, OnOk, IfOk, IfErr, sym, subst}
use Rattle.rail_base.specs.Refusals.{AnswersFirst}
use Rattle.rail_rules.specs.Plant.{Plant}
use Rattle.rail_scene.specs.Scenes.{IsScene}
use Rattle.rail_scene.specs.declared.scene.SceneTrain.{SceneTrain}
use Rattle.rail_compile.specs.Itineraries.{plant_of_scene, with_trains}
use Rattle.rail_compile.specs.Refusals.{compile_refusal}
use Rattle.rail_compile.proofs.compiling.compile.Goals as goal

pub compile_with-requires-clause-scene : goal.compile_with-requires-clause-scene
compile_with-requires-clause-scene c =
    subst (λ (trains : List SceneTrain). IsScene (with_trains c.args.scene.now trains)) (sym c.as_slice.ensures) c.requires

pub returns-clause-accepted : goal.returns-clause-accepted
returns-clause-accepted c =
    subst (λ (trains : List SceneTrain). OnOk c.compile_with.result (compile_refusal (with_trains c.args.scene.now trains) ≡ None)) c.as_slice.ensures c.compile_with.ensures.accepted

pub returns-clause-spelled : goal.returns-clause-spelled
returns-clause-spelled c =
    subst (λ (trains : List SceneTrain). IfOk c.compile_with.result (λ (plant : Plant). plant ≡ plant_of_scene (with_trains c.args.scene.now trains))) c.as_slice.ensures c.compile_with.ensures.spelled

pub returns-clause-refused : goal.returns-clause-refused
returns-clause-refused c =
    subst (λ (trains : List SceneTrain). IfErr c.compile_with.result (AnswersFirst (compile_refusal (with_trains c.args.scene.now trains)))) c.as_slice.ensures c.compile_with.ensures.refused

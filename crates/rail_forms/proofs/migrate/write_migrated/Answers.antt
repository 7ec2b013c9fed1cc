use Rattle.std.proofs.Common.{None, subst}
use Rattle.rail_io.specs.Writes.{Adds, AddsPrefix}
use Rattle.rail_scene.specs.declared.scene.Scene.{Scene}
use Rattle.rail_input.specs.Inputs.{plant_refusal}
use Rattle.rail_forms.specs.Answers.{IsAnswer}
use Rattle.rail_forms.specs.Promises.{ended}
use Rattle.rail_forms.specs.SceneTexts.{WritesScene}
use Rattle.rail_forms.proofs.Migrations.{answered_as, migrates}
use Rattle.rail_forms.proofs.migrate.write_migrated.Goals as goal

pub returns-clause-answer : goal.returns-clause-answer
returns-clause-answer g c =
    let bytes = c.args.bytes.now in
    let before = g.O.Sink.written c.args.out.now in
    let now = g.O.Sink.written c.write_text.new.out in
    let fine = c.in_ok-planned.ensures.accepted in
    answered_as (plant_refusal bytes) (ended c.write_text.result) fine (migrates bytes (Adds before now) fine) (migrates bytes (AddsPrefix before now) fine)
    (subst (λ (scene : Scene). IsAnswer None (WritesScene scene (Adds before now)) (WritesScene scene (AddsPrefix before now)) (ended c.write_text.result))
    c.in_ok-planned.ensures.scene c.write_text.ensures.answer)

use Rattle.std.proofs.Common.{ℕ, List, refl, ap, ◌∙◌}
use Rattle.rail_gen.specs.MadeScenes.{made_scene}
use Rattle.rail_input.specs.Inputs.{scene_input}
use Rattle.rail_scene.specs.declared.scene.Scene.{Scene}
use Rattle.rail_forms.proofs.ScenarioAnswers.{accepted_read, begun_input, marks_of, marks_shown, names_shown, seats_of}
use Rattle.rail_forms.proofs.Summaries.{summary_answered}
use Rattle.rail_forms.proofs.summary.answer.Goals as goal

pub new-requires-clause-accepted : goal.new-requires-clause-accepted
new-requires-clause-accepted g c =
    let names_are = c.deref-3.ensures.value ∙ c.in_ok-names.ensures ∙ names_shown _ c.deref.result.now c.args.deck.items c.deref.ensures.value in
    let read = c.in_ok-plant.ensures in
    accepted_read (scene_input c.in_ok-scene.scene c.deref-3.result.now)
    c.in_ok-plant.field-0.plant c.in_ok-plant.field-0.commands.items _ _ c.in_ok-plant.field-0.force c.new-desk.ensures read.plant read.commands read.force names_are c.requires.fine read.fine

pub new-requires-clause-marks : goal.new-requires-clause-marks
new-requires-clause-marks g c =
    marks_of _ _ _ _ refl c.new-desk.ensures (marks_shown _ c.deref-2.result.now c.args.deck.items c.deref-2.ensures.value c.read_marks.ensures)

pub returns-clause-answer : goal.returns-clause-answer
returns-clause-answer g c =
    let number = c.args.number in
    let names_are = c.deref-3.ensures.value ∙ c.in_ok-names.ensures ∙ names_shown _ c.deref.result.now c.args.deck.items c.deref.ensures.value in
    let read = c.in_ok-plant.ensures in
    let begun = begun_input (scene_input c.in_ok-scene.scene c.deref-3.result.now)
    c.in_ok-plant.field-0.plant c.in_ok-plant.field-0.commands.items _ _ c.in_ok-plant.field-0.force c.new-desk.ensures read.plant read.commands read.force names_are in
    summary_answered number _ _
    (c.in_ok-begun.ensures.input ∙ begun ∙ ap (λ (scene : Scene). scene_input scene c.deref-3.result.now) c.in_ok-scene.ensures.made ∙ ap (λ (names : List (List ℕ)). scene_input (made_scene number) names) names_are)
    _ _ (c.in_ok-begun.ensures.seats ∙ seats_of _ _ _ _ refl c.new-desk.ensures) _ _ _ c.summarize.ensures.answer

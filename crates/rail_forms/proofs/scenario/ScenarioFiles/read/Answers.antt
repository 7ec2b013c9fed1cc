use Rattle.std.proofs.Common.{ap, ◌∙◌}
use Rattle.rail_command_line.specs.Forms.{scenario_in}
use Rattle.rail_forms.specs.Answers.{Told}
use Rattle.rail_forms.specs.Files.{content_of, told_of}
use Rattle.rail_forms.proofs.Lists.{if_err}
use Rattle.rail_forms.proofs.ScenarioAnswers.{commands_unread, last_read, scene_unread, timetable_unread}
use Rattle.rail_forms.proofs.scenario.ScenarioFiles.read.Goals as goal

pub returns-in_err-scene-clause-unread : goal.returns-in_err-scene-clause-unread
returns-in_err-scene-clause-unread g c =
    if_err c.from_residual.result c.in_err-scene.field-0.0 _ c.from_residual.ensures.1
    (scene_unread g.S.Shelf (scenario_in c.args.scenario.now) _ _ c.in_err-scene.field-0.0 c.in_err-scene.ensures.told_stays c.in_err-scene.ensures.faults_never_fall c.in_err-scene.ensures.refused)

pub returns-in_err-timetable-clause-unread : goal.returns-in_err-timetable-clause-unread
returns-in_err-timetable-clause-unread g c =
    let scene = c.in_ok-scene.ensures in
    if_err c.from_residual-in_err-timetable.result c.in_err-timetable.field-0.0 _ c.from_residual-in_err-timetable.ensures.1
    (timetable_unread g.S.Shelf (scenario_in c.args.scenario.now) _ _ scene.told_stays scene.faults_never_fall c.in_ok-scene.scene.items scene.bytes scene.fits
    _ c.in_err-timetable.field-0.0 c.in_err-timetable.ensures.told_stays c.in_err-timetable.ensures.faults_never_fall c.in_err-timetable.ensures.refused)

pub returns-in_err-commands-clause-unread : goal.returns-in_err-commands-clause-unread
returns-in_err-commands-clause-unread g c =
    let scene = c.in_ok-scene.ensures in
    let timetable = c.in_ok-timetable.ensures in
    if_err c.from_residual-in_err-commands.result c.in_err-commands.field-0.0 _ c.from_residual-in_err-commands.ensures.1
    (commands_unread g.S.Shelf (scenario_in c.args.scenario.now) _ _ scene.told_stays scene.faults_never_fall c.in_ok-scene.scene.items scene.bytes scene.fits
    _ timetable.told_stays timetable.faults_never_fall (content_of c.in_ok-timetable.timetable)
    (λ content at. timetable.content content (ap (λ (t : Told). told_of t (scenario_in c.args.scenario.now).timetable) scene.told_stays ∙ at)) timetable.fits
    _ c.in_err-commands.field-0.0 c.in_err-commands.ensures.told_stays c.in_err-commands.ensures.faults_never_fall c.in_err-commands.ensures.refused)

pub returns-clause-held : goal.returns-clause-held
returns-clause-held g c =
    let still = c.in_ok-scene.ensures.told_stays in
    let still_then = c.in_ok-timetable.ensures.told_stays ∙ still in
    record {
      scene = c.in_ok-scene.ensures.bytes;
      scene_fits = c.in_ok-scene.ensures.fits;
      timetable = λ content at. c.in_ok-timetable.ensures.content content (ap (λ (t : Told). told_of t (scenario_in c.args.scenario.now).timetable) still ∙ at);
      timetable_fits = c.in_ok-timetable.ensures.fits;
      commands = λ content at. c.in_ok-commands.ensures.content content (ap (λ (t : Told). told_of t (scenario_in c.args.scenario.now).commands) still_then ∙ at);
      commands_fits = c.in_ok-commands.ensures.fits;
    }

pub returns-clause-read : goal.returns-clause-read
returns-clause-read g c =
    last_read g.S.Shelf (scenario_in c.args.scenario.now) _ _ _ c.in_ok-scene.ensures.read c.in_ok-timetable.ensures.read c.in_ok-commands.ensures.read

use Rattle.std.proofs.Common.{refl, ap, ◌∙◌}
use Rattle.rail_command_line.specs.declared.files.FileRole.TheVariants as role
use Rattle.rail_forms.specs.Answers.{Told}
use Rattle.rail_forms.specs.Files.{too_large}
use Rattle.rail_forms.proofs.Answers.{ended_with}
use Rattle.rail_forms.proofs.TwoFiles.{both_read, scene_unread, second_unread}
use Rattle.rail_forms.proofs.edit.answer.Goals as goal

pub returns-in_err-scene-clause-answer : goal.returns-in_err-scene-clause-answer
returns-in_err-scene-clause-answer g c =
    scene_unread _ _ _ _ _ _ _ _ g.S.Shelf _ _ c.in_err-scene.field-0.0
    (ended_with c.from_residual.result c.in_err-scene.field-0.0 c.from_residual.ensures.1) refl c.in_err-scene.ensures.refused

pub returns-in_err-edits-clause-answer : goal.returns-in_err-edits-clause-answer
returns-in_err-edits-clause-answer g c =
    second_unread _ _ _ _ _ _ _ _ c.in_ok-scene.scene.items c.in_ok-scene.ensures.bytes c.in_ok-scene.ensures.fits g.S.Shelf _ _ c.in_err-edits.field-0.0
    (ended_with c.from_residual-in_err-edits.result c.in_err-edits.field-0.0 c.from_residual-in_err-edits.ensures.1) c.in_ok-scene.ensures.told_stays c.in_err-edits.ensures.refused

pub returns-clause-answer : goal.returns-clause-answer
returns-clause-answer g c =
    both_read _ _ _ _ _ _ _ _ c.deref.result.now (λ bytes at. c.deref.ensures.value ∙ c.in_ok-scene.ensures.bytes bytes at) (ap (too_large role.Scene) c.deref.ensures.value ∙ c.in_ok-scene.ensures.fits)
    c.deref-2.result.now (λ lines at. c.deref-2.ensures.value ∙ c.in_ok-edits.ensures.bytes lines (ap (λ (told : Told). told c.args.edits.now) c.in_ok-scene.ensures.told_stays ∙ at))
    (ap (too_large role.Edits) c.deref-2.ensures.value ∙ c.in_ok-edits.ensures.fits) c.write_edited.ensures.answer

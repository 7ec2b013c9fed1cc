use Rattle.std.proofs.Common.{[], ◌∷◌, Some, ap, ◌∙◌, arith}
use Rattle.rail_command_line.specs.Files.{file_as}
use Rattle.rail_command_line.specs.declared.files.FileRole.TheVariants as role
use Rattle.rail_forms.specs.Answers.{Told, status_of}
use Rattle.rail_forms.specs.Files.{too_large}
use Rattle.rail_forms.proofs.Answers.{ended_with}
use Rattle.rail_forms.proofs.PastAnswers.{keeps_lines, lines_read, lines_unread, past_unread}
use Rattle.rail_forms.proofs.Reading.{keeps_read}
use Rattle.rail_forms.proofs.ScenarioAnswers.{keeps_fault, keeps_unread}
use Rattle.rail_forms.proofs.SnapshotAnswers.{begun_answers, snapshot_first, snapshot_lines}
use Rattle.rail_forms.proofs.resume.answer.Goals as goal

pub returns-in_err-files-clause-kept : goal.returns-in_err-files-clause-kept
returns-in_err-files-clause-kept g c =
    keeps_unread g.S.Shelf g.O.Sink _ (file_as role.Snapshot (Some c.args.snapshot.now) ∷ []) _ _ _ c.in_err-files.field-0.0 _
    (ended_with c.from_residual.result c.in_err-files.field-0.0 c.from_residual.ensures.1) c.in_err-files.ensures.unread

pub returns-in_err-files-clause-answer : goal.returns-in_err-files-clause-answer
returns-in_err-files-clause-answer g c =
    past_unread role.Snapshot _ _ _ _ _ (snapshot_lines _ _ _) g.S.Shelf _ _ c.in_err-files.field-0.0
    (ended_with c.from_residual.result c.in_err-files.field-0.0 c.from_residual.ensures.1) c.in_err-files.ensures.unread

pub returns-in_err-snapshot-clause-kept : goal.returns-in_err-snapshot-clause-kept
returns-in_err-snapshot-clause-kept g c =
    keeps_lines g.S.Shelf g.O.Sink _ role.Snapshot c.args.snapshot.now _ _ _ _ c.in_err-snapshot.field-0.0 _
    (ended_with c.from_residual-in_err-snapshot.result c.in_err-snapshot.field-0.0 c.from_residual-in_err-snapshot.ensures.1) c.in_ok-files.files c.in_ok-files.ensures.held
    c.in_ok-files.ensures.told_stays c.in_ok-files.ensures.faults_never_fall c.in_err-snapshot.ensures.told_stays c.in_err-snapshot.ensures.faults_never_fall c.in_err-snapshot.ensures.refused

pub returns-in_err-snapshot-clause-answer : goal.returns-in_err-snapshot-clause-answer
returns-in_err-snapshot-clause-answer g c =
    lines_unread role.Snapshot _ _ _ _ _ (snapshot_lines _ _ _) _ c.in_ok-files.files c.in_ok-files.ensures.held g.S.Shelf _ _ c.in_err-snapshot.field-0.0
    (ended_with c.from_residual-in_err-snapshot.result c.in_err-snapshot.field-0.0 c.from_residual-in_err-snapshot.ensures.1) c.in_ok-files.ensures.told_stays c.in_err-snapshot.ensures.refused

pub returns-in_err-begun-clause-kept : goal.returns-in_err-begun-clause-kept
returns-in_err-begun-clause-kept g c =
    keeps_fault g.S.Shelf g.O.Sink _ _ _ _ _ c.in_err-begun.field-0.0 _ c.in_ok-snapshot.ensures.read (c.in_ok-snapshot.ensures.told_stays ∙ c.in_ok-files.ensures.told_stays)
    (omega (arith, c.in_ok-files.ensures.faults_never_fall, c.in_ok-snapshot.ensures.faults_never_fall))
    (ended_with c.from_residual-in_err-begun.result (status_of c.in_err-begun.field-0.0) c.from_residual-in_err-begun.ensures.1) c.in_err-begun.ensures.of_bytes

pub returns-in_err-begun-clause-answer : goal.returns-in_err-begun-clause-answer
returns-in_err-begun-clause-answer g c =
    lines_read role.Snapshot _ _ _ _ _ (snapshot_lines _ _ _) _ c.in_ok-files.files c.in_ok-files.ensures.held
    c.in_ok-snapshot.snapshot.items (λ text at. c.in_ok-snapshot.ensures.bytes text (ap (λ (told : Told). told c.args.snapshot.now) c.in_ok-files.ensures.told_stays ∙ at)) c.in_ok-snapshot.ensures.fits
    (snapshot_first _ _ _ _ _ _ _ c.in_err-begun.field-0.0
    (ended_with c.from_residual-in_err-begun.result (status_of c.in_err-begun.field-0.0) c.from_residual-in_err-begun.ensures.1) c.in_err-begun.ensures.refused)

pub returns-clause-kept : goal.returns-clause-kept
returns-clause-kept g c =
    keeps_read g.S.Shelf g.O.Sink _ _ _ _ _ _ _ c.in_ok-snapshot.ensures.read (c.in_ok-snapshot.ensures.told_stays ∙ c.in_ok-files.ensures.told_stays)
    (omega (arith, c.in_ok-files.ensures.faults_never_fall, c.in_ok-snapshot.ensures.faults_never_fall)) c.report.ensures.of_bytes c.report.ensures.writes

pub returns-clause-answer : goal.returns-clause-answer
returns-clause-answer g c =
    lines_read role.Snapshot _ _ _ _ _ (snapshot_lines _ _ _) _ c.in_ok-files.files c.in_ok-files.ensures.held
    c.deref.result.now (λ text at. c.deref.ensures.value ∙ c.in_ok-snapshot.ensures.bytes text (ap (λ (told : Told). told c.args.snapshot.now) c.in_ok-files.ensures.told_stays ∙ at))
    (ap (too_large role.Snapshot) c.deref.ensures.value ∙ c.in_ok-snapshot.ensures.fits)
    (begun_answers _ _ _ _ _ _ _ _ _ c.in_ok-begun.ensures.accepted c.in_ok-begun.ensures.input c.in_ok-begun.ensures.seats c.report.ensures.answer)

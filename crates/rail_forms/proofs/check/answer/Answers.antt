use Rattle.std.proofs.Common.{[], ◌∷◌, Some, ap, sym, ◌∙◌, arith}
use Rattle.rail_command_line.specs.Files.{file_as}
use Rattle.rail_command_line.specs.declared.files.FileRole.TheVariants as role
use Rattle.rail_forms.specs.Answers.{Told}
use Rattle.rail_forms.specs.Files.{too_large}
use Rattle.rail_forms.proofs.Answers.{ended_with}
use Rattle.rail_forms.proofs.CheckAnswers.{history_lines}
use Rattle.rail_forms.proofs.PastAnswers.{keeps_lines, lines_read, lines_unread, past_unread}
use Rattle.rail_forms.proofs.Reading.{keeps_read}
use Rattle.rail_forms.proofs.ScenarioAnswers.{keeps_unread}
use Rattle.rail_forms.proofs.check.answer.Goals as goal

pub returns-in_err-files-clause-kept : goal.returns-in_err-files-clause-kept
returns-in_err-files-clause-kept g c =
    keeps_unread g.S.Shelf g.O.Sink _ (file_as role.History (Some c.args.history.now) ∷ []) _ _ _ c.in_err-files.field-0.0 _
    (ended_with c.from_residual.result c.in_err-files.field-0.0 c.from_residual.ensures.1) c.in_err-files.ensures.unread

pub returns-in_err-files-clause-answer : goal.returns-in_err-files-clause-answer
returns-in_err-files-clause-answer g c =
    past_unread role.History _ _ _ _ _ (history_lines _ _ _) g.S.Shelf _ _ c.in_err-files.field-0.0
    (ended_with c.from_residual.result c.in_err-files.field-0.0 c.from_residual.ensures.1) c.in_err-files.ensures.unread

pub returns-in_err-history-clause-kept : goal.returns-in_err-history-clause-kept
returns-in_err-history-clause-kept g c =
    keeps_lines g.S.Shelf g.O.Sink _ role.History c.args.history.now _ _ _ _ c.in_err-history.field-0.0 _
    (ended_with c.from_residual-in_err-history.result c.in_err-history.field-0.0 c.from_residual-in_err-history.ensures.1) c.in_ok-files.files c.in_ok-files.ensures.held
    c.in_ok-files.ensures.told_stays c.in_ok-files.ensures.faults_never_fall c.in_err-history.ensures.told_stays c.in_err-history.ensures.faults_never_fall c.in_err-history.ensures.refused

pub returns-in_err-history-clause-answer : goal.returns-in_err-history-clause-answer
returns-in_err-history-clause-answer g c =
    lines_unread role.History _ _ _ _ _ (history_lines _ _ _) _ c.in_ok-files.files c.in_ok-files.ensures.held g.S.Shelf _ _ c.in_err-history.field-0.0
    (ended_with c.from_residual-in_err-history.result c.in_err-history.field-0.0 c.from_residual-in_err-history.ensures.1) c.in_ok-files.ensures.told_stays c.in_err-history.ensures.refused

pub returns-clause-kept : goal.returns-clause-kept
returns-clause-kept g c =
    keeps_read g.S.Shelf g.O.Sink _ _ _ _ _ _ _ c.in_ok-history.ensures.read (c.in_ok-history.ensures.told_stays ∙ c.in_ok-files.ensures.told_stays)
    (omega (arith, c.in_ok-files.ensures.faults_never_fall, c.in_ok-history.ensures.faults_never_fall)) c.judge.ensures.of_bytes c.judge.ensures.writes

pub returns-clause-answer : goal.returns-clause-answer
returns-clause-answer g c =
    lines_read role.History _ _ _ _ _ (history_lines _ _ _) _ c.in_ok-files.files c.in_ok-files.ensures.held
    c.deref.result.now (λ text at. c.deref.ensures.value ∙ c.in_ok-history.ensures.bytes text (ap (λ (told : Told). told c.args.history.now) c.in_ok-files.ensures.told_stays ∙ at))
    (ap (too_large role.History) c.deref.ensures.value ∙ c.in_ok-history.ensures.fits) (rw (sym c.deref-2.ensures.value) c.judge.ensures.answer)

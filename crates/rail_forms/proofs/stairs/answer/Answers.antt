use Rattle.std.proofs.Common.{[], None}
use Rattle.rail_forms.specs.Answers.{status_of}
use Rattle.rail_forms.proofs.Answers.{ended_with}
use Rattle.rail_forms.proofs.Reading.{keeps_read}
use Rattle.rail_forms.proofs.ScenarioAnswers.{answers_begun, answers_refused, answers_unread, keeps_fault, keeps_unread, nothing_behind}
use Rattle.rail_forms.proofs.stairs.answer.Goals as goal

pub returns-in_err-files-clause-kept : goal.returns-in_err-files-clause-kept
returns-in_err-files-clause-kept g c =
    keeps_unread g.S.Shelf g.O.Sink _ [] _ _ _ c.in_err-files.field-0.0 _ (ended_with c.from_residual.result c.in_err-files.field-0.0 c.from_residual.ensures.1) c.in_err-files.ensures.unread

pub returns-in_err-files-clause-answer : goal.returns-in_err-files-clause-answer
returns-in_err-files-clause-answer g c =
    answers_unread g.S.Shelf _ _ _ _ _ _ _ c.in_err-files.field-0.0 _ (ended_with c.from_residual.result c.in_err-files.field-0.0 c.from_residual.ensures.1) c.in_err-files.ensures.unread

pub returns-in_err-begun-clause-kept : goal.returns-in_err-begun-clause-kept
returns-in_err-begun-clause-kept g c =
    keeps_fault g.S.Shelf g.O.Sink _ _ _ _ _ c.in_err-begun.field-0.0 _ c.in_ok-files.ensures.read c.in_ok-files.ensures.told_stays c.in_ok-files.ensures.faults_never_fall
    (ended_with c.from_residual-in_err-begun.result (status_of c.in_err-begun.field-0.0) c.from_residual-in_err-begun.ensures.1) c.in_err-begun.ensures.of_bytes

pub returns-in_err-begun-clause-answer : goal.returns-in_err-begun-clause-answer
returns-in_err-begun-clause-answer g c =
    answers_refused _ (λ input. None) nothing_behind _ _ _ _ _ _ c.in_ok-files.files c.in_ok-files.ensures.held c.in_err-begun.field-0.0
    (ended_with c.from_residual-in_err-begun.result (status_of c.in_err-begun.field-0.0) c.from_residual-in_err-begun.ensures.1) c.in_err-begun.ensures.refused

pub returns-clause-kept : goal.returns-clause-kept
returns-clause-kept g c =
    keeps_read g.S.Shelf g.O.Sink _ _ _ _ _ _ _ c.in_ok-files.ensures.read c.in_ok-files.ensures.told_stays c.in_ok-files.ensures.faults_never_fall c.report.ensures.of_bytes c.report.ensures.writes

pub returns-clause-answer : goal.returns-clause-answer
returns-clause-answer g c =
    answers_begun _ (λ input. None) nothing_behind _ _ _ _ _ _ c.in_ok-files.files c.in_ok-files.ensures.held _ _
    c.in_ok-begun.ensures.accepted c.in_ok-begun.ensures.input c.in_ok-begun.ensures.seats c.report.ensures.answer

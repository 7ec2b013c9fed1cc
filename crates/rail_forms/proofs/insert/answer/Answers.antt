use Rattle.std.proofs.Common.{[], ◌≡◌, refl, ap, arith}
use Rattle.rail_command_line.specs.Forms.{scenario_in}
use Rattle.rail_command_line.specs.declared.forms.PathRequest.{PathRequest}
use Rattle.rail_forms.specs.Answers.{status_of}
use Rattle.rail_forms.proofs.Answers.{ended_with}
use Rattle.rail_forms.proofs.Behind.{keeps_same, paths_begun, paths_refused, paths_unread, same_paths}
use Rattle.rail_forms.proofs.Reading.{keeps_read}
use Rattle.rail_forms.proofs.ScenarioAnswers.{keeps_fault, keeps_unread}
use Rattle.rail_forms.proofs.insert.answer.Goals as goal

pub returns-then-paths-clause-answer : goal.returns-then-paths-clause-answer
returns-then-paths-clause-answer g c =
    let from : c.paths.inside.0.1.0.0 ≡ c.args.paths.now.from = ap (λ (paths : PathRequest). paths.from) c.paths.view_is in
    let to : c.paths.inside.0.1.1.0.0 ≡ c.args.paths.now.to = ap (λ (paths : PathRequest). paths.to) c.paths.view_is in
    record {
      of_words = λ empty. refl;
      of_run = λ some. absurd (omega (arith, some, c.if-paths.true, from, to));
    }

pub returns-in_err-files-clause-kept : goal.returns-in_err-files-clause-kept
returns-in_err-files-clause-kept g c =
    keeps_same g.S.Shelf g.O.Sink _ _ _ _ _ _ _ (ap (λ (paths : PathRequest). scenario_in paths.scenario) c.paths.view_is)
    (keeps_unread g.S.Shelf g.O.Sink _ [] _ _ _ c.in_err-files.field-0.0 _ (ended_with c.from_residual.result c.in_err-files.field-0.0 c.from_residual.ensures.1) c.in_err-files.ensures.unread)

pub returns-in_err-files-clause-answer : goal.returns-in_err-files-clause-answer
returns-in_err-files-clause-answer g c =
    let from : c.paths.inside.0.1.0.0 ≡ c.args.paths.now.from = ap (λ (paths : PathRequest). paths.from) c.paths.view_is in
    let to : c.paths.inside.0.1.1.0.0 ≡ c.args.paths.now.to = ap (λ (paths : PathRequest). paths.to) c.paths.view_is in
    record {
      of_words = λ empty. absurd (omega (arith, empty, c.if-paths.false, from, to));
      of_run = λ some. same_paths _ _ _ _ _ _ _
          (ap (λ (paths : PathRequest). paths.train.now) c.paths.view_is) (ap (λ (paths : PathRequest). paths.count) c.paths.view_is)
          (ap (λ (paths : PathRequest). scenario_in paths.scenario) c.paths.view_is) _ _ _ _ _
          (paths_unread _ _ _ _ _ _ _ _ g.S.Shelf _ _ c.in_err-files.field-0.0 _ (ended_with c.from_residual.result c.in_err-files.field-0.0 c.from_residual.ensures.1) refl c.in_err-files.ensures.unread);
    }

pub returns-in_err-begun-clause-kept : goal.returns-in_err-begun-clause-kept
returns-in_err-begun-clause-kept g c =
    keeps_same g.S.Shelf g.O.Sink _ _ _ _ _ _ _ (ap (λ (paths : PathRequest). scenario_in paths.scenario) c.paths.view_is)
    (keeps_fault g.S.Shelf g.O.Sink _ _ _ _ _ c.in_err-begun.field-0.0 _ c.in_ok-files.ensures.read c.in_ok-files.ensures.told_stays c.in_ok-files.ensures.faults_never_fall
    (ended_with c.from_residual-in_err-begun.result (status_of c.in_err-begun.field-0.0) c.from_residual-in_err-begun.ensures.1) c.in_err-begun.ensures.of_bytes)

pub returns-in_err-begun-clause-answer : goal.returns-in_err-begun-clause-answer
returns-in_err-begun-clause-answer g c =
    let from : c.paths.inside.0.1.0.0 ≡ c.args.paths.now.from = ap (λ (paths : PathRequest). paths.from) c.paths.view_is in
    let to : c.paths.inside.0.1.1.0.0 ≡ c.args.paths.now.to = ap (λ (paths : PathRequest). paths.to) c.paths.view_is in
    record {
      of_words = λ empty. absurd (omega (arith, empty, c.if-paths.false, from, to));
      of_run = λ some. same_paths _ _ _ _ _ _ _
          (ap (λ (paths : PathRequest). paths.train.now) c.paths.view_is) (ap (λ (paths : PathRequest). paths.count) c.paths.view_is)
          (ap (λ (paths : PathRequest). scenario_in paths.scenario) c.paths.view_is) _ _ _ _ _
          (paths_refused _ _ _ _ _ _ _ _ _ c.in_ok-files.files c.in_ok-files.ensures.held c.in_err-begun.field-0.0
          (ended_with c.from_residual-in_err-begun.result (status_of c.in_err-begun.field-0.0) c.from_residual-in_err-begun.ensures.1) c.in_err-begun.ensures.refused);
    }

pub returns-clause-kept : goal.returns-clause-kept
returns-clause-kept g c =
    keeps_same g.S.Shelf g.O.Sink _ _ _ _ _ _ _ (ap (λ (paths : PathRequest). scenario_in paths.scenario) c.paths.view_is)
    (keeps_read g.S.Shelf g.O.Sink _ _ _ _ _ _ _ c.in_ok-files.ensures.read c.in_ok-files.ensures.told_stays c.in_ok-files.ensures.faults_never_fall c.report.ensures.of_bytes c.report.ensures.writes)

pub returns-clause-answer : goal.returns-clause-answer
returns-clause-answer g c =
    let from : c.paths.inside.0.1.0.0 ≡ c.args.paths.now.from = ap (λ (paths : PathRequest). paths.from) c.paths.view_is in
    let to : c.paths.inside.0.1.1.0.0 ≡ c.args.paths.now.to = ap (λ (paths : PathRequest). paths.to) c.paths.view_is in
    record {
      of_words = λ empty. absurd (omega (arith, empty, c.if-paths.false, from, to));
      of_run = λ some. same_paths _ _ _ _ _ _ _
          (ap (λ (paths : PathRequest). paths.train.now) c.paths.view_is) (ap (λ (paths : PathRequest). paths.count) c.paths.view_is)
          (ap (λ (paths : PathRequest). scenario_in paths.scenario) c.paths.view_is) _ _ _ _ _
          (paths_begun _ _ _ _ _ _ _ _ _ c.in_ok-files.files c.in_ok-files.ensures.held _ _
          c.in_ok-begun.ensures.accepted c.in_ok-begun.ensures.input c.in_ok-begun.ensures.seats c.report.ensures.answer c.report.ensures.behind);
    }

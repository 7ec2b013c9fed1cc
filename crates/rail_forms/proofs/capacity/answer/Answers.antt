use Rattle.std.proofs.Common.{[], ◌≡◌, ◌<◌, ◌≤◌, false, eqb, nat_le, length, refl, sym, ◌∙◌, arith, rules}
use Rattle.std.proofs.lemmas.Bool.{le-leb}
use Rattle.std.proofs.lemmas.Bool.Decides.{nat_tests}
use Rattle.std.proofs.lemmas.Option.{none-some}
use Rattle.rail_forms.specs.Answers.{status_of}
use Rattle.rail_forms.specs.Capacity.{line_refusal}
use Rattle.rail_forms.proofs.Answers.{ended_with}
use Rattle.rail_forms.proofs.Reading.{keeps_read}
use Rattle.rail_forms.proofs.ScenarioAnswers.{answers_begun, answers_refused, answers_unread, keeps_fault, keeps_unread}
use Rattle.rail_forms.proofs.Studies.{none_refused, study_answered, study_refused, window_refused}
use Rattle.rail_forms.proofs.capacity.answer.Goals as goal

pub returns-then-window-clause-answer : goal.returns-then-window-clause-answer
returns-then-window-clause-answer g c =
    let filled : eqb (length c.args.line.now) 0 ≡ false = grind (arith, nat_tests) in
    let order : c.args.window.to ≤ c.args.window.from = first_of (omega (arith, c.if-window.true), first_of (search rules, grind (arith, nat_tests, c.if-window.true))) in
    study_refused c.args.line.now c.args.window _ _ _ _ _ _ _
    (window_refused c.args.line.now c.args.window filled (le-leb c.args.window.to c.args.window.from order)) refl

pub returns-in_err-files-clause-kept : goal.returns-in_err-files-clause-kept
returns-in_err-files-clause-kept g c =
    keeps_unread g.S.Shelf g.O.Sink _ [] _ _ _ c.in_err-files.field-0.0 _ (ended_with c.from_residual.result c.in_err-files.field-0.0 c.from_residual.ensures.1) c.in_err-files.ensures.unread

pub returns-in_err-files-clause-answer : goal.returns-in_err-files-clause-answer
returns-in_err-files-clause-answer g c =
    let filled : eqb (length c.args.line.now) 0 ≡ false = grind (arith, nat_tests) in
    let order : c.args.window.from < c.args.window.to = first_of (omega (arith, c.if-window.false), first_of (search rules, grind (arith, nat_tests, c.if-window.false))) in
    let later : nat_le c.args.window.to c.args.window.from ≡ false = grind (arith, nat_tests) in
    study_answered c.args.line.now c.args.window _ _ _ _ _ _ (none_refused c.args.line.now c.args.window filled later)
    (answers_unread g.S.Shelf _ _ _ _ _ _ _ c.in_err-files.field-0.0 _ (ended_with c.from_residual.result c.in_err-files.field-0.0 c.from_residual.ensures.1) c.in_err-files.ensures.unread)

pub returns-in_err-files-clause-unread : goal.returns-in_err-files-clause-unread
returns-in_err-files-clause-unread g c = λ empty.
    let filled : eqb (length c.args.line.now) 0 ≡ false = grind (arith, nat_tests) in
    let order : c.args.window.from < c.args.window.to = first_of (omega (arith, c.if-window.false), first_of (search rules, grind (arith, nat_tests, c.if-window.false))) in
    let later : nat_le c.args.window.to c.args.window.from ≡ false = grind (arith, nat_tests) in
    absurd (none-some empty.0 (sym (none_refused c.args.line.now c.args.window filled later) ∙ empty.1))

pub returns-in_err-begun-clause-kept : goal.returns-in_err-begun-clause-kept
returns-in_err-begun-clause-kept g c =
    keeps_fault g.S.Shelf g.O.Sink _ _ _ _ _ c.in_err-begun.field-0.0 _ c.in_ok-files.ensures.read c.in_ok-files.ensures.told_stays c.in_ok-files.ensures.faults_never_fall
    (ended_with c.from_residual-in_err-begun.result (status_of c.in_err-begun.field-0.0) c.from_residual-in_err-begun.ensures.1) c.in_err-begun.ensures.of_bytes

pub returns-in_err-begun-clause-answer : goal.returns-in_err-begun-clause-answer
returns-in_err-begun-clause-answer g c =
    let filled : eqb (length c.args.line.now) 0 ≡ false = grind (arith, nat_tests) in
    let order : c.args.window.from < c.args.window.to = first_of (omega (arith, c.if-window.false), first_of (search rules, grind (arith, nat_tests, c.if-window.false))) in
    let later : nat_le c.args.window.to c.args.window.from ≡ false = grind (arith, nat_tests) in
    study_answered c.args.line.now c.args.window _ _ _ _ _ _ (none_refused c.args.line.now c.args.window filled later)
    (answers_refused _ (λ input. line_refusal input.plant c.args.line.now) (λ first input. refl) _ _ _ _ _ _ c.in_ok-files.files c.in_ok-files.ensures.held c.in_err-begun.field-0.0
    (ended_with c.from_residual-in_err-begun.result (status_of c.in_err-begun.field-0.0) c.from_residual-in_err-begun.ensures.1) c.in_err-begun.ensures.refused)

pub returns-in_err-begun-clause-unread : goal.returns-in_err-begun-clause-unread
returns-in_err-begun-clause-unread g c = λ empty.
    let filled : eqb (length c.args.line.now) 0 ≡ false = grind (arith, nat_tests) in
    let order : c.args.window.from < c.args.window.to = first_of (omega (arith, c.if-window.false), first_of (search rules, grind (arith, nat_tests, c.if-window.false))) in
    let later : nat_le c.args.window.to c.args.window.from ≡ false = grind (arith, nat_tests) in
    absurd (none-some empty.0 (sym (none_refused c.args.line.now c.args.window filled later) ∙ empty.1))

pub returns-clause-kept : goal.returns-clause-kept
returns-clause-kept g c =
    keeps_read g.S.Shelf g.O.Sink _ _ _ _ _ _ _ c.in_ok-files.ensures.read c.in_ok-files.ensures.told_stays c.in_ok-files.ensures.faults_never_fall c.report.ensures.of_bytes c.report.ensures.writes

pub returns-clause-answer : goal.returns-clause-answer
returns-clause-answer g c =
    let filled : eqb (length c.args.line.now) 0 ≡ false = grind (arith, nat_tests) in
    let order : c.args.window.from < c.args.window.to = first_of (omega (arith, c.if-window.false), first_of (search rules, grind (arith, nat_tests, c.if-window.false))) in
    let later : nat_le c.args.window.to c.args.window.from ≡ false = grind (arith, nat_tests) in
    study_answered c.args.line.now c.args.window _ _ _ _ _ _ (none_refused c.args.line.now c.args.window filled later)
    (answers_begun _ (λ input. line_refusal input.plant c.args.line.now) (λ first input. refl) _ _ _ _ _ _ c.in_ok-files.files c.in_ok-files.ensures.held _ _
    c.in_ok-begun.ensures.accepted c.in_ok-begun.ensures.input c.in_ok-begun.ensures.seats c.report.ensures.answer)

pub returns-clause-unread : goal.returns-clause-unread
returns-clause-unread g c = λ empty.
    let filled : eqb (length c.args.line.now) 0 ≡ false = grind (arith, nat_tests) in
    let order : c.args.window.from < c.args.window.to = first_of (omega (arith, c.if-window.false), first_of (search rules, grind (arith, nat_tests, c.if-window.false))) in
    let later : nat_le c.args.window.to c.args.window.from ≡ false = grind (arith, nat_tests) in
    absurd (none-some empty.0 (sym (none_refused c.args.line.now c.args.window filled later) ∙ empty.1))

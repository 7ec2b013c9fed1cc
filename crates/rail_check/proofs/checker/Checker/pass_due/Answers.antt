use Rattle.std.proofs.Common.{◌≡◌, ◌+◌, ◌++◌, ◌∷◌, [], ◌∙◌, refl}
use Rattle.rail_history.specs.HistoryLines.{IsSpelled}
use Rattle.rail_ledger.specs.Ledgers.{IsAt, line_with}
use Rattle.rail_ledger.specs.declared.ledger.Ledger.{Ledger}
use Rattle.rail_rules.specs.Fronts.{Line}
use Rattle.rail_text.specs.Names.{HasNames}
use Rattle.rail_check.specs.declared.checker.Checker.{Checker}
use Rattle.rail_check.proofs.Passed.{due_spelled, not_fresh}
use Rattle.rail_check.proofs.SoFar.{taken}
use Rattle.rail_check.proofs.checker.Checker.pass_due.Goals as goal

pub returns-clause-followed : goal.returns-clause-followed
returns-clause-followed c = λ input bytes so_far.
    let old : Checker = c.args.self.now in
    let new : Checker = record { ledger = c.take_due.new.self; after_hold = c.is_hold-self.result; lines = old.lines + 1; room = c.put_bare_line.new.line } in
    let due = c.in-Some.due in
    let line : Line = line_with due.entry [] in
    let checked = so_far.checked in
    let told = c.in-Some.ensures in
    let middle : Ledger = c.due.new.self in
    let same : middle.input ≡ input = told.input ∙ checked.input_is in
    let at : IsAt checked.front middle = told.unchanged checked.front checked.at in
    let has : HasNames middle.input.plant c.names.result.now = record { sections = c.names.ensures.sections; trains = c.names.ensures.trains } in
    let spelled : IsSpelled input.plant line c.as_slice.result.now =
    due_spelled middle input same checked.front at due told.due c.as_slice.result.now (c.as_slice.ensures ∙ c.put_bare_line.ensures.text middle.input.plant has) in
    record {
      lines = so_far.lines ++ line ∷ [];
      read = c.if-not-pass.ensures.passed refl input.plant line spelled (not_fresh due.entry.what told.due.other) bytes so_far.lines so_far.read;
      checked = taken input so_far.lines old checked line new (c.take_due.ensures.input ∙ told.input)
          (λ front held. c.take_due.ensures.taken front (told.unchanged front held.0)) c.is_hold-self.ensures refl;
    }

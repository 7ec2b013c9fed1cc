use Rattle.std.proofs.Common.{◌∙◌, List, ℕ, sym, subst}
use Rattle.rail_check.specs.Answers.{judged_in}
use Rattle.rail_laws_verdict.specs.Verdicts.{Verdict}
use Rattle.rail_rules.specs.Fronts.{Line}
use Rattle.rail_forms.proofs.Writes.{ended-failed}
use Rattle.rail_forms.specs.Scenarios.{refusal_in, spelled_in}
use Rattle.rail_ledger.specs.declared.input.RunInput.{RunInput}
use Rattle.rail_rules.specs.Orders.{Input}
use Rattle.rail_forms.specs.Answers.{status_of}
use Rattle.rail_forms.specs.Checks.{AnswersHistory}
use Rattle.rail_forms.specs.Promises.{ended}
use Rattle.rail_forms.proofs.Answers.{ended_with}
use Rattle.rail_forms.proofs.CheckAnswers.{IsRead, accepted_run, fine_shown, history_cut, history_input, history_judged, history_refused, input_refused, named_input, refused_input, verdict_input}
use Rattle.rail_forms.proofs.check.judge.Goals as goal

pub returns-in_err-plant-clause-answer : goal.returns-in_err-plant-clause-answer
returns-in_err-plant-clause-answer g c =
    let files = c.args.files.now in
    let names_are = c.deref.ensures.value ∙ c.in_ok-names.ensures in
    subst (λ names. AnswersHistory (refusal_in files names) (spelled_in files names) c.args.history.now (g.O.Sink.written c.args.out.now) (g.O.Sink.written c.args.out.now) (ended c.from_residual-in_err-plant.result)) names_are
    (input_refused (refusal_in files c.deref.result.now) (spelled_in files c.deref.result.now) c.args.history.now (g.O.Sink.written c.args.out.now) (g.O.Sink.written c.args.out.now) (ended c.from_residual-in_err-plant.result) c.in_err-plant.field-0.0 (ended_with c.from_residual-in_err-plant.result (status_of c.in_err-plant.field-0.0) c.from_residual-in_err-plant.ensures.1) c.in_err-plant.ensures.refused)

pub returns-in_err-verdict-clause-answer : goal.returns-in_err-verdict-clause-answer
returns-in_err-verdict-clause-answer g c =
    let files = c.args.files.now in
    let text : List ℕ = c.args.history.now in
    let names : List (List ℕ) = c.deref.result.now in
    let names_are = c.deref.ensures.value ∙ c.in_ok-names.ensures in
    let input : Input = spelled_in files names in
    let ok = c.in_ok-plant.ensures in
    let fine = fine_shown _ c.args.deck.now names names_are c.requires.fine in
    let run : RunInput = record { plant = c.in_ok-plant.field-0.plant; commands = c.in_ok-plant.field-0.commands; deck = c.in_ok-names.names; force = c.in_ok-plant.field-0.force } in
    let accepted = ok.fine fine.0 fine.1 in
    let read : IsRead input run = record { plant = ok.plant; commands = ok.commands; deck = sym c.deref.ensures.value; force = ok.force; accepted = accepted } in
    subst (λ (shown : List (List ℕ)). AnswersHistory (refusal_in files shown) (spelled_in files shown) text (g.O.Sink.written c.args.out.now) (g.O.Sink.written c.args.out.now) (ended c.from_residual-in_err-verdict.result)) names_are
    (history_refused (refusal_in files names) ok.accepted input (named_input input run read) text (g.O.Sink.written c.args.out.now) (g.O.Sink.written c.args.out.now) (ended c.from_residual-in_err-verdict.result) c.in_err-verdict.field-0.0
    (ended_with c.from_residual-in_err-verdict.result (status_of c.in_err-verdict.field-0.0) c.from_residual-in_err-verdict.ensures.1) (refused_input input run read text c.in_err-verdict.field-0.0 c.in_err-verdict.ensures.refused))

pub check_file-requires-clause-accepted : goal.check_file-requires-clause-accepted
check_file-requires-clause-accepted g c =
    let files = c.args.files.now in
    let text : List ℕ = c.args.history.now in
    let names : List (List ℕ) = c.deref.result.now in
    let names_are = c.deref.ensures.value ∙ c.in_ok-names.ensures in
    let input : Input = spelled_in files names in
    let ok = c.in_ok-plant.ensures in
    let fine = fine_shown _ c.args.deck.now names names_are c.requires.fine in
    let run : RunInput = record { plant = c.in_ok-plant.field-0.plant; commands = c.in_ok-plant.field-0.commands; deck = c.in_ok-names.names; force = c.in_ok-plant.field-0.force } in
    let accepted = ok.fine fine.0 fine.1 in
    let read : IsRead input run = record { plant = ok.plant; commands = ok.commands; deck = sym c.deref.ensures.value; force = ok.force; accepted = accepted } in
    accepted_run input run read

pub returns-in_err-write_verdict-clause-answer : goal.returns-in_err-write_verdict-clause-answer
returns-in_err-write_verdict-clause-answer g c =
    let files = c.args.files.now in
    let text : List ℕ = c.args.history.now in
    let names : List (List ℕ) = c.deref.result.now in
    let names_are = c.deref.ensures.value ∙ c.in_ok-names.ensures in
    let input : Input = spelled_in files names in
    let ok = c.in_ok-plant.ensures in
    let fine = fine_shown _ c.args.deck.now names names_are c.requires.fine in
    let run : RunInput = record { plant = c.in_ok-plant.field-0.plant; commands = c.in_ok-plant.field-0.commands; deck = c.in_ok-names.names; force = c.in_ok-plant.field-0.force } in
    let accepted = ok.fine fine.0 fine.1 in
    let read : IsRead input run = record { plant = ok.plant; commands = ok.commands; deck = sym c.deref.ensures.value; force = ok.force; accepted = accepted } in
    let checked = c.in_ok-verdict.ensures.verdict in
    let lines : List Line = checked.lines in
    let history = history_input input run read text lines checked.is_history in
    let said : Verdict = judged_in c.in_ok-verdict.verdict in
    let is = verdict_input input run read said lines checked.judged in
    subst (λ (shown : List (List ℕ)). AnswersHistory (refusal_in files shown) (spelled_in files shown) text (g.O.Sink.written c.args.out.now) (g.O.Sink.written c.write_verdict.new.out) (ended c.from_residual-in_err-write_verdict.result)) names_are
    (history_cut (refusal_in files names) ok.accepted input (named_input input run read) text (g.O.Sink.written c.args.out.now) (g.O.Sink.written c.write_verdict.new.out) (ended c.from_residual-in_err-write_verdict.result) lines history said is
    (ended-failed c.from_residual-in_err-write_verdict.result c.from_residual-in_err-write_verdict.ensures.1) c.in_err-write_verdict.ensures.failed_adds_prefix)

pub returns-clause-answer : goal.returns-clause-answer
returns-clause-answer g c =
    let files = c.args.files.now in
    let text : List ℕ = c.args.history.now in
    let names : List (List ℕ) = c.deref.result.now in
    let names_are = c.deref.ensures.value ∙ c.in_ok-names.ensures in
    let input : Input = spelled_in files names in
    let ok = c.in_ok-plant.ensures in
    let fine = fine_shown _ c.args.deck.now names names_are c.requires.fine in
    let run : RunInput = record { plant = c.in_ok-plant.field-0.plant; commands = c.in_ok-plant.field-0.commands; deck = c.in_ok-names.names; force = c.in_ok-plant.field-0.force } in
    let accepted = ok.fine fine.0 fine.1 in
    let read : IsRead input run = record { plant = ok.plant; commands = ok.commands; deck = sym c.deref.ensures.value; force = ok.force; accepted = accepted } in
    let checked = c.in_ok-verdict.ensures.verdict in
    let lines : List Line = checked.lines in
    let history = history_input input run read text lines checked.is_history in
    let said : Verdict = judged_in c.in_ok-verdict.verdict in
    let is = verdict_input input run read said lines checked.judged in
    subst (λ (shown : List (List ℕ)). AnswersHistory (refusal_in files shown) (spelled_in files shown) text (g.O.Sink.written c.args.out.now) (g.O.Sink.written c.write_verdict.new.out) (ended c.end_with.result)) names_are
    (history_judged (refusal_in files names) ok.accepted input (named_input input run read) text (g.O.Sink.written c.args.out.now) (g.O.Sink.written c.write_verdict.new.out) (ended c.end_with.result) lines history said is c.end_with.ensures c.in_ok-write_verdict.ensures.adds)

use Rattle.std.proofs.Common.{List, ℕ, refl, sym, ap, ◌∙◌, subst}
use Rattle.rail_base.specs.Refusals.{AnswersFirst}
use Rattle.rail_forms.specs.Scenarios.{refusal_in, spelled_in}
use Rattle.rail_forms.proofs.Lists.{if_err}
use Rattle.rail_forms.proofs.ScenarioAnswers.{accepted_read, begun_input, marks_of, marks_shown, names_shown, seats_of}
use Rattle.rail_forms.proofs.scenario.ScenarioFiles.begin.Goals as goal

pub returns-in_err-plant-clause-refused : goal.returns-in_err-plant-clause-refused
returns-in_err-plant-clause-refused g c =
    let names_are = c.deref-3.ensures.value ∙ c.in_ok-names.ensures ∙ names_shown _ c.deref.result.now c.args.deck.items c.deref.ensures.value in
    let refusal = λ (names : List (List ℕ)). refusal_in c.args.self.now names in
    if_err c.from_residual-in_err-plant.result c.in_err-plant.field-0.0 _ c.from_residual-in_err-plant.ensures.1
    (subst (λ (names : List (List ℕ)). AnswersFirst (refusal names) c.in_err-plant.field-0.0) names_are c.in_err-plant.ensures.refused)

pub new-requires-clause-accepted : goal.new-requires-clause-accepted
new-requires-clause-accepted g c =
    let names_are = c.deref-3.ensures.value ∙ c.in_ok-names.ensures ∙ names_shown _ c.deref.result.now c.args.deck.items c.deref.ensures.value in
    let read = c.in_ok-plant.ensures in
    accepted_read (spelled_in c.args.self.now c.deref-3.result.now)
    c.in_ok-plant.field-0.plant c.in_ok-plant.field-0.commands.items _ _ c.in_ok-plant.field-0.force c.new-desk.ensures read.plant read.commands read.force names_are c.requires.fine read.fine

pub new-requires-clause-marks : goal.new-requires-clause-marks
new-requires-clause-marks g c =
    marks_of _ _ _ _ refl c.new-desk.ensures (marks_shown _ c.deref-2.result.now c.args.deck.items c.deref-2.ensures.value c.read_marks.ensures)

pub returns-clause-accepted : goal.returns-clause-accepted
returns-clause-accepted g c =
    let names_are = c.deref-3.ensures.value ∙ c.in_ok-names.ensures ∙ names_shown _ c.deref.result.now c.args.deck.items c.deref.ensures.value in
    ap (λ (names : List (List ℕ)). refusal_in c.args.self.now names) (sym names_are) ∙ c.in_ok-plant.ensures.accepted

pub returns-clause-input : goal.returns-clause-input
returns-clause-input g c =
    let names_are = c.deref-3.ensures.value ∙ c.in_ok-names.ensures ∙ names_shown _ c.deref.result.now c.args.deck.items c.deref.ensures.value in
    let read = c.in_ok-plant.ensures in
    c.in_ok-begun.ensures.input
    ∙ begun_input (spelled_in c.args.self.now c.deref-3.result.now)
    c.in_ok-plant.field-0.plant c.in_ok-plant.field-0.commands.items _ _ c.in_ok-plant.field-0.force c.new-desk.ensures read.plant read.commands read.force names_are
    ∙ ap (λ (names : List (List ℕ)). spelled_in c.args.self.now names) names_are

pub returns-clause-seats : goal.returns-clause-seats
returns-clause-seats g c = c.in_ok-begun.ensures.seats ∙ seats_of _ _ _ _ refl c.new-desk.ensures

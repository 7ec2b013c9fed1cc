use Rattle.std.proofs.Common.{◌≡◌, true, None, IfErr, IfOk, OnOk, length}
use Rattle.rail_base.specs.Limits.{is_from_one, most, Policies}
use Rattle.rail_base.specs.Refusals.{AnswersFirst}
use Rattle.rail_input.specs.Inputs.{input_in, input_refusal}
use Rattle.rail_input.specs.declared.inputs.ReadInput.{ReadInput}
use Rattle.rail_rules.specs.Accepted.{are_distinct_names, is_accepted_input}
use Rattle.rail_forms.proofs.ScenarioAnswers.{shown}
use Rattle.rail_forms.proofs.scenario.ScenarioFiles.read_input.Goals as goal

pub returns-clause-accepted : goal.returns-clause-accepted
returns-clause-accepted c = shown (λ b t o. OnOk c.read_input.result (input_refusal b t o c.args.deck.now ≡ None)) c.as_deref.result c.as_deref-2.result c.deref.ensures.value c.as_deref.ensures.value c.as_deref-2.ensures.value c.read_input.ensures.accepted

pub returns-clause-plant : goal.returns-clause-plant
returns-clause-plant c = shown (λ b t o. IfOk c.read_input.result (λ (read : ReadInput). read.plant ≡ (input_in b t o c.args.deck.now).plant)) c.as_deref.result c.as_deref-2.result c.deref.ensures.value c.as_deref.ensures.value c.as_deref-2.ensures.value c.read_input.ensures.plant

pub returns-clause-commands : goal.returns-clause-commands
returns-clause-commands c = shown (λ b t o. IfOk c.read_input.result (λ (read : ReadInput). read.commands.items ≡ (input_in b t o c.args.deck.now).commands)) c.as_deref.result c.as_deref-2.result c.deref.ensures.value c.as_deref.ensures.value c.as_deref-2.ensures.value c.read_input.ensures.commands

pub returns-clause-force : goal.returns-clause-force
returns-clause-force c = shown (λ b t o. IfOk c.read_input.result (λ (read : ReadInput). read.force ≡ (input_in b t o c.args.deck.now).force)) c.as_deref.result c.as_deref-2.result c.deref.ensures.value c.as_deref.ensures.value c.as_deref-2.ensures.value c.read_input.ensures.force

pub returns-clause-fine : goal.returns-clause-fine
returns-clause-fine c = shown (λ b t o. is_from_one (most Policies) (length c.args.deck.now) ≡ true → are_distinct_names c.args.deck.now ≡ true → OnOk c.read_input.result (is_accepted_input (input_in b t o c.args.deck.now) ≡ true)) c.as_deref.result c.as_deref-2.result c.deref.ensures.value c.as_deref.ensures.value c.as_deref-2.ensures.value c.read_input.ensures.fine

pub returns-clause-refused : goal.returns-clause-refused
returns-clause-refused c = shown (λ b t o. IfErr c.read_input.result (AnswersFirst (input_refusal b t o c.args.deck.now))) c.as_deref.result c.as_deref-2.result c.deref.ensures.value c.as_deref.ensures.value c.as_deref-2.ensures.value c.read_input.ensures.refused

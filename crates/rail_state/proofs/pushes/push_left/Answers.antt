use Rattle.std.proofs.Common.{◌-◌, [], ◌∷◌, count_by, sym, ap, ◌∙◌, arith}
use Rattle.rail_rules.specs.Times.{enter}
use Rattle.rail_laws_events.specs.Accounts.{tally}
use Rattle.rail_queue.specs.declared.event.Event.{Event}
use Rattle.rail_state.specs.Events.{event_of}
use Rattle.rail_state.proofs.Leaving.{before, left_entering, left_line}
use Rattle.rail_state.proofs.pushes.push_left.Goals as goal

pub returns-clause-counted : goal.returns-clause-counted
returns-clause-counted c = λ adms long entering q.
    let plant = c.args.step.now.of.now.plant.now in
    let t = c.args.step.now.of.now.train in
    let m = c.args.step.now.of.now.place - 1 in
    let j = c.args.step.now.step - 1 in
    let leaves = sym c.does_stand_on.ensures ∙ c.if-does_stand_on.false in
    let left = entering ∙ ap (enter plant t adms m) (before c.args.step.now.step c.args.step.now.first) ∙ left_entering plant t adms m j c.args.step.now.of.now.accepted (omega (arith, c.args.step.now.of.now.first, c.args.step.now.of.now.last)) leaves in
    let line = left_line plant t adms m j c.args.section c.end_when_left-ended.result leaves (c.end_when_left-ended.ensures leaves adms left) in
    omega (arith, c.push.ensures.counted q, ap (λ (e : Event). count_by q (e ∷ [])) c.event_of_section.ensures, ap (tally (λ e. q (event_of e))) line)

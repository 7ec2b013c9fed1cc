use Rattle.std.proofs.Common.{◌≡◌, suc, ◌-◌, sym, ap, ◌∙◌}
use Rattle.rail_rules.specs.Times.{enter}
use Rattle.rail_block.proofs.Placing.{before}
use Rattle.rail_block.proofs.Ending.{leave-last, leave-before}
use Rattle.rail_block.proofs.moves.KnownStep.leave_time.Goals as goal

pub returns-then-self-steps-clause-time : goal.returns-then-self-steps-clause-time
returns-then-self-steps-clause-time c = λ adms h.
    let own = c.args.self.now.of.now in
    let step = c.args.self.now.step in
    c.arrive_time.ensures.time adms h
    ∙ leave-last own.plant.now own.train adms (own.place - 1) (step - 1) (sym (before step c.args.self.now.first) ∙ c.if-self-steps.true ∙ c.steps.ensures.steps)

pub returns-else-self-steps-clause-time : goal.returns-else-self-steps-clause-time
returns-else-self-steps-clause-time c = λ adms h.
    let own = c.args.self.now.of.now in
    let step = c.args.self.now.step in
    let at : step ≡ suc (step - 1) = before step c.args.self.now.first in
    c.reach_time.ensures.time adms h.times
    ∙ ap (enter own.plant.now own.train adms (own.place - 1)) at
    ∙ leave-before own.plant.now own.train adms (own.place - 1) (step - 1) (λ e. c.if-self-steps.false (at ∙ e ∙ sym c.steps.ensures.steps))

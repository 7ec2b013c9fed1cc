use Rattle.std.proofs.Common.{◌-◌}
use Rattle.rail_queue.specs.declared.event.Class.TheVariants as class
use Rattle.rail_rules.specs.Plant.{step_section}
use Rattle.rail_state.specs.TrainStates.{state_of}
use Rattle.rail_state.proofs.EventClasses.{after_class}
use Rattle.rail_state.proofs.run_state.RunState.happen.Goals as goal

pub returns-after-self-clause-trains : goal.returns-after-self-clause-trains
returns-after-self-clause-trains c = after_class c.args.plant.now c.args.self.now.trains c.look_again_at-was_cause.new.self c.args.event class.Free c.in-Free.is (c.look_again_at-was_cause.ensures.trains c.args.plant.now c.args.event.train)

pub returns-in-Enter-clause-trains : goal.returns-in-Enter-clause-trains
returns-in-Enter-clause-trains c = after_class c.args.plant.now c.args.self.now.trains c.enter-section.new.self c.args.event class.Enter c.in-Enter.is
    (c.enter-section.ensures.trains c.args.event.place (step_section c.args.plant.now c.args.event.train ((state_of c.args.self.now.trains c.args.event.train).head.place - 1)
    ((state_of c.args.self.now.trains c.args.event.train).head.step - 1)))

pub returns-in-Out-clause-trains : goal.returns-in-Out-clause-trains
returns-in-Out-clause-trains c = after_class c.args.plant.now c.args.self.now.trains c.leave.new.self c.args.event class.Out c.in-Out.is (c.leave.ensures.trains c.args.plant.now)

pub returns-in-Ready-clause-trains : goal.returns-in-Ready-clause-trains
returns-in-Ready-clause-trains c = after_class c.args.plant.now c.args.self.now.trains c.make_ready.new.self c.args.event class.Ready c.in-Ready.is (c.make_ready.ensures.trains c.args.plant.now c.args.event.place)

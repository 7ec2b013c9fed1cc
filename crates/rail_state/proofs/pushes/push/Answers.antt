use Rattle.std.proofs.Common.{true, arith}
use Rattle.rail_queue.specs.declared.event.Event.{Event}
use Rattle.rail_state.proofs.Counting.{count_all}
use Rattle.rail_state.proofs.pushes.push.Goals as goal

pub returns-clause-room : goal.returns-clause-room
returns-clause-room c =
    omega (arith, c.push.ensures.spare, c.push.ensures.counted (λ (_ : Event). true), count_all c.push.new.self.events, count_all c.args.queue.now.events)
